-- Laws of holders in slots and chains: which of them is last, and what a guest put into a slot changes.
use Rattle.std.proofs.Common.{◌≡◌, ℕ, zero, suc, ◌+◌, ◌-◌, ◌<◌, ◌≤◌, true, cond, ◌⊎◌, List, length, sym, refl}
use Rattle.std.proofs.Common.{ap, ◌∙◌, inl, inr, ⊎_elim, arith}
use Rattle.model.specs.Counting.{◌=?◌, ◌and◌}
use Rattle.model.specs.market.Market.{Tables, Screened}
use Rattle.model.specs.market.Stable.{sooner}
use Rattle.model.proofs.Tests.{both, eq_or_ne, lt_or_le, is_lt, not_lt, is_eq, not_eq, and_no, and_false, only_yes}
use Rattle.model.proofs.Tests.{only_no}
use Rattle.quiet.specs.Efficient.{of, IsLast}
use Rattle.model.specs.claims.Meaning.{WithinLimits}
use Rattle.allocation.specs.Screens.{screened_at}
use Rattle.allocation.specs.Ties.{last_ticket}
use Rattle.quiet.specs.Seating.{priority, link, Chain, At, LaterOf, LastOf, Slotted}
use Rattle.quiet.proofs.efficient.Order.{sooner_trans, sooner_total}
use Rattle.quiet.proofs.efficient.Holding.{Reseated, no_seat}
use Rattle.quiet.proofs.seats.Listing.{keys}
use Rattle.quiet.proofs.standing.Standing.{priority_sooner}

-- ---- chains

-- the guest above is the number's
pub link_suc : (slot : ℕ → ℕ) (q : ℕ) → 0 < q → link slot q ≡ suc (slot (q - 1))
unfolding link
link_suc slot zero l = absurd (omega arith)
link_suc slot (suc q) l = ap (λ k. suc (slot k)) (omega arith)

pub link_same : (slot slot' : ℕ → ℕ) (q : ℕ) → ((k : ℕ) → k < q → slot k ≡ slot' k) → link slot q ≡ link slot' q
unfolding link
link_same slot slot' zero e = refl
link_same slot slot' (suc q) e = ap suc (e q (omega arith))

-- a list has at most one chain of a length
pub chain_unique :
    {n h first : ℕ} {nexts : List ℕ} {slot slot' : ℕ → ℕ} → Chain n h slot first nexts → Chain n h slot' first nexts
    → (q : ℕ) → q < h → slot q ≡ slot' q
unfolding link
chain_unique {h = h} {nexts = nexts} {slot} {slot'} c d q l = down (h - suc q) q (omega arith)
  where
    same : (q : ℕ) → link slot (suc q) ≡ link slot' (suc q) → slot q ≡ slot' q
    same q e = let z : suc (slot q) ≡ suc (slot' q) = e in omega arith

    down : (k q : ℕ) → suc q + k ≡ h → slot q ≡ slot' q
    down zero q e =
        let top : suc q ≡ h = omega arith in
        same q (ap (link slot) top ∙ sym c.first_is ∙ d.first_is ∙ ap (link slot') (sym top))
    down (suc k) q e =
        let above = down k (suc q) (omega arith) in
        same q (sym (c.next_is (suc q) (omega arith)) ∙ ap (of nexts) above ∙ d.next_is (suc q) (omega arith))

-- ---- the last of a chain

module _ (t : Tables) (w : WithinLimits t) (c j y before_y i before_i : ℕ)
    (ly : y < length t.amounts) (li : i < length t.amounts) (low : (i : ℕ) → of t.tickets i ≤ last_ticket) where
  abbrev S : Screened
  S = screened_at t c

  pub later_after : priority S i j < priority S y j → LaterOf S j y before_y i before_i i before_i
  unfolding screened_at
  later_after less = inl (refl, refl, sym (priority_sooner S _ _ j (low _) (low _)) ∙ is_lt _ _ less)

  pub later_before : priority S y j ≤ priority S i j → LaterOf S j y before_y i before_i y before_y
  unfolding screened_at
  later_before more =
      inr (
        refl,
        refl,
        ⊎_elim
            (λ (e : i ≡ y). inl e)
            (λ (ne : i ≡ y → ⊥). inr (sooner_total S (keys t c w) j _ _ ly li (λ e. ne (sym e))
            (sym (priority_sooner S _ _ j (low _) (low _)) ∙ not_lt _ _ more)))
            (eq_or_ne i y),
      )

-- the last of the guests from slot q on, and the one in slot q itself with its number
pub record LastSoFar (S : Screened) (j n h first : ℕ) (nexts : List ℕ) (i number guest before q : ℕ) : Type 0 where
  pub slot : ℕ → ℕ
  pub chain : Chain n h slot first nexts
  pub within : q < h
  pub here : i ≡ slot q
  pub number_is : number ≡ suc (slot q)
  pub at : At slot h guest before
  pub so_far : (k : ℕ) → q ≤ k → k < h → (slot k ≡ guest) ⊎ (sooner S (slot k) j guest j ≡ true)

pub last_start :
    {S : Screened} {j n h first : ℕ} {nexts : List ℕ} (slot : ℕ → ℕ) → Chain n h slot first nexts → 0 < h
    → LastSoFar S j n h first nexts (first - 1) first (first - 1) 0 (h - 1)
last_start {h = h} {first = first} slot c l =
    let first_is : first ≡ suc (slot (h - 1)) = c.first_is ∙ link_suc slot h l in
    let here : first - 1 ≡ slot (h - 1) = omega arith in
    record {
      slot = slot;
      chain = c;
      within = omega arith;
      here = here;
      number_is = first_is;
      at = record {
        place = h - 1;
        within = omega arith;
        guest_is = here;
        before_is = sym (only_no _ _ (not_lt _ _ (omega arith)));
      };
      so_far = λ k lk hk. inl (let k_is : k ≡ h - 1 = omega arith in ap slot k_is ∙ sym here);
    }

module _ {S : Screened} {j n h first : ℕ} {nexts : List ℕ} {i number guest before q : ℕ}
    (l : LastSoFar S j n h first nexts i number guest before q) where
  pub last_guest : guest < n
  last_guest = rw l.at.guest_is (l.chain.guests _ l.at.within)

  -- the next one's number
  pub next_number : 0 < q → of nexts i ≡ suc (l.slot (q - 1))
  next_number z =
      ap (of nexts) l.here ∙ l.chain.next_is q l.within ∙ link_suc l.slot q z

  pub next_guest : 0 < q → of nexts i - 1 < n
  next_guest z =
      let low = l.chain.guests (q - 1) (omega (arith, l.within)) in
      omega (arith, next_number z)

  pub last_turn :
      {guest' before' : ℕ} → 0 < q → LaterOf S j guest before (of nexts i - 1) number guest' before'
      → LastSoFar S j n h first nexts (of nexts i - 1) (of nexts i) guest' before' (q - 1)
  last_turn {guest'} {before'} z later =
      let next_is = next_number z in
      let i_is : of nexts i - 1 ≡ l.slot (q - 1) = omega arith in
      record {
        slot = l.slot;
        chain = l.chain;
        within = omega (arith, l.within);
        here = i_is;
        number_is = next_is;
        at = at_later i_is later;
        so_far = λ k lk hk. so_far_later k lk hk i_is later;
      }
    where
      at_later :
          of nexts i - 1 ≡ l.slot (q - 1) → LaterOf S j guest before (of nexts i - 1) number guest' before'
          → At l.slot h guest' before'
      at_later i_is (inl (g, b, _)) = record {
        place = q - 1;
        within = omega (arith, l.within);
        guest_is = g ∙ i_is;
        before_is = b ∙ l.number_is ∙ (let up : suc (q - 1) ≡ q = omega arith in
            sym (only_yes _ _ (is_lt _ _ (omega (arith, l.within))) ∙ ap (λ k. suc (l.slot k)) up));
      }
      at_later i_is (inr (g, b, _)) = rw (g, b) l.at

      so_far_later :
          (k : ℕ) → q - 1 ≤ k → k < h → of nexts i - 1 ≡ l.slot (q - 1)
          → LaterOf S j guest before (of nexts i - 1) number guest' before'
          → (l.slot k ≡ guest') ⊎ (sooner S (l.slot k) j guest' j ≡ true)
      so_far_later k lk hk i_is (inl (g, _, before_it)) = rw g (⊎_elim
          (λ (e : k < q). inl (let k_is : k ≡ q - 1 = omega arith in ap l.slot k_is ∙ sym i_is))
          (λ (e : q ≤ k). inr (⊎_elim
          (λ (same : l.slot k ≡ guest). rw same before_it)
          (λ sooner_k. sooner_trans S j _ _ _ sooner_k before_it)
          (l.so_far k e hk)))
          (lt_or_le k q))
      so_far_later k lk hk i_is (inr (g, _, after)) = rw g (⊎_elim
          (λ (e : k < q). let k_is : l.slot k ≡ of nexts i - 1 =
          (let z : k ≡ q - 1 = omega arith in ap l.slot z) ∙ sym i_is in rw k_is after)
          (λ (e : q ≤ k). l.so_far k e hk)
          (lt_or_le k q))

pub last_of_guest :
    {S : Screened} {j n h first guest before : ℕ} {nexts : List ℕ} → LastOf S j n h first nexts guest before → guest < n
last_of_guest l = rw l.at.guest_is (l.chain.guests _ l.at.within)

-- the last of a station's chain is its last holder
pub last_holder :
    {S : Screened} {a held : ℕ → ℕ} {slot : ℕ → ℕ → ℕ} {j first guest before : ℕ} {nexts : List ℕ}
    → j < S.station_count → Slotted S a held slot → Chain S.guest_count (held j) (slot j) first nexts
    → LastOf S j S.guest_count (held j) first nexts guest before
    → IsLast S a j guest × At (slot j) (held j) guest before
last_holder {S} {a} {held} {slot} {j} {guest = guest} lj h c l =
    let same = chain_unique l.chain c in
    let p = l.at.place in
    let guest_is : guest ≡ slot j p = l.at.guest_is ∙ same p l.at.within in (
      record {
        guest = rw guest_is (h.holds j p lj l.at.within).0;
        holds = ap a guest_is ∙ (h.holds j p lj l.at.within).1;
        last = λ k lk e. let (q, lq, k_is) = h.found k j lk e in
            rw (← (same q lq ∙ k_is)) (l.last q lq);
      },
      record {
        place = p;
        within = l.at.within;
        guest_is = guest_is;
        before_is = l.at.before_is ∙ ⊎_elim
            (λ (z : suc p < held j). only_yes _ _ (is_lt _ _ z) ∙ ap suc (same (suc p) z)
            ∙ sym (only_yes _ _ (is_lt _ _ z)))
            (λ (z : held j ≤ suc p). only_no _ _ (not_lt _ _ z) ∙ sym (only_no _ _ (not_lt _ _ z)))
            (lt_or_le (suc p) (held j));
      },
    )

-- ---- a guest in a slot

-- slot' is slot with guest x in slot p of station j
pub record SlotPut (slot : ℕ → ℕ → ℕ) (j p x : ℕ) (slot' : ℕ → ℕ → ℕ) : Type 0 where
  pub placed : slot' j p ≡ x
  pub kept : (l q : ℕ) → (l ≡ j → q ≡ p → ⊥) → slot' l q ≡ slot l q

unfoldable pub put_in : (slot : ℕ → ℕ → ℕ) (j p x : ℕ) → ℕ → ℕ → ℕ
put_in slot j p x l q = cond (l =? j and q =? p) x (slot l q)

pub slot_put : (slot : ℕ → ℕ → ℕ) (j p x : ℕ) → SlotPut slot j p x (put_in slot j p x)
unfolding put_in
slot_put slot j p x = record {
  placed = ap (λ b. cond b x (slot j p)) (both (is_eq j j refl) (is_eq p p refl));
  kept = λ l q ne. ap (λ b. cond b x (slot l q)) (⊎_elim
      (λ (e : l ≡ j). ap (λ b. l =? j and b) (not_eq _ _ (ne e)) ∙ and_false _)
      (λ (e : l ≡ j → ⊥). and_no _ _ (not_eq _ _ e))
      (eq_or_ne l j));
}

-- guest x, who had no seat, has one at station j, in slot p; whoever was in it has lost its own
module _ {S : Screened} {a a' held held' : ℕ → ℕ} {slot slot' : ℕ → ℕ → ℕ} {j p x : ℕ} (h : Slotted S a held slot)
    (station : (i l : ℕ) → i < S.guest_count → a i ≡ suc l → l < S.station_count) (r : Reseated a x j a')
    (guest : x < S.guest_count) (waits : a x ≡ 0) (seated : a' x ≡ suc j) (put : SlotPut slot j p x slot')
    (stay : (q : ℕ) → q < held j → (q ≡ p → ⊥) → a' (slot j q) ≡ suc j)
    (gone : (q : ℕ) → q < held j → q ≡ p → a' (slot j q) ≡ suc j → ⊥)
    (more : (q : ℕ) → q < held j → q < held' j) (there : p < held' j)
    (new : (q : ℕ) → q < held' j → (q ≡ p → ⊥) → q < held j)
    (others : (l : ℕ) → (l ≡ j → ⊥) → held' l ≡ held l) where
  -- a slot at exit is the new one, or is one at entry
  slot_cases : (l q : ℕ) → q < held' l → ((l ≡ j) × (q ≡ p)) ⊎ ((q < held l) × (l ≡ j → q ≡ p → ⊥))
  slot_cases l q lq = ⊎_elim
      (λ (e : l ≡ j). ⊎_elim
      (λ (z : q ≡ p). inl (e, z))
      (λ (z : q ≡ p → ⊥). inr (rw e (new q (rw e at lq) z), λ _. z))
      (eq_or_ne q p))
      (λ (ne : l ≡ j → ⊥). inr (rw (← others l ne) lq, λ e. absurd (ne e)))
      (eq_or_ne l j)

  -- the new guest was in no slot
  not_x : (l q : ℕ) → l < S.station_count → q < held l → slot l q ≡ x → ⊥
  not_x l q ll lq e = no_seat a waits (h.holds l q ll lq).1 e

  holder_stays : (l q : ℕ) → l < S.station_count → q < held l → (l ≡ j → q ≡ p → ⊥) → a' (slot l q) ≡ suc l
  holder_stays l q ll lq ne = ⊎_elim
      (λ (e : l ≡ j). rw e (stay q (rw e at lq) (ne e)))
      (λ (z : l ≡ j → ⊥). r.old (slot l q) l z (h.holds l q ll lq).1)
      (eq_or_ne l j)

  pub slotted_after : Slotted S a' held' slot'
  slotted_after = record {
    holds = λ l q ll lq. ⊎_elim
        (λ (l_is, q_is). rw (l_is, q_is, put.placed) (guest, seated))
        (λ (old, ne). rw (put.kept l q ne) ((h.holds l q ll old).0, holder_stays l q ll old ne))
        (slot_cases l q lq);
    found = λ i l li e. ⊎_elim
        (λ (o : a i ≡ suc l).
        let (q, lq, i_is) = h.found i l li o in
        (q, still l q lq, put.kept l q (not_gone i l q lq i_is e) ∙ i_is))
        (λ (i_is, l_is). here i l i_is l_is)
        (r.new i l e);
    once = λ l q k ll lq lk e. ⊎_elim
        (λ (l_is, q_is). ⊎_elim
        (λ (_, k_is). q_is ∙ sym k_is)
        (λ (old, ne). absurd (not_x l k ll old (sym (put.kept l k ne) ∙ sym e ∙ at_put l q l_is q_is)))
        (slot_cases l k lk))
        (λ (old, ne). ⊎_elim
        (λ (l_is, k_is). absurd (not_x l q ll old (sym (put.kept l q ne) ∙ e ∙ at_put l k l_is k_is)))
        (λ (old_k, ne_k). h.once l q k ll old old_k (sym (put.kept l q ne) ∙ e ∙ put.kept l k ne_k))
        (slot_cases l k lk))
        (slot_cases l q lq);
  }
    where
      not_gone : (i l q : ℕ) → q < held l → slot l q ≡ i → a' i ≡ suc l → l ≡ j → q ≡ p → ⊥
      not_gone i l q lq i_is e l_is q_is = gone q (rw l_is at lq) q_is
          (ap a' (ap (λ l. slot l q) (sym l_is) ∙ i_is) ∙ e ∙ ap suc l_is)

      here : (i l : ℕ) → i ≡ x → l ≡ j → (q : ℕ) × (q < held' l) × (slot' l q ≡ i)
      here i l i_is l_is = (p, rw l_is there, rw (i_is, l_is) put.placed)

      still : (l q : ℕ) → q < held l → q < held' l
      still l q lq = ⊎_elim
          (λ (e : l ≡ j). rw e (more q (rw e at lq)))
          (λ (ne : l ≡ j → ⊥). rw (others l ne) lq)
          (eq_or_ne l j)

      at_put : (l q : ℕ) → l ≡ j → q ≡ p → slot' l q ≡ x
      at_put l q l_is q_is = rw (l_is, q_is) put.placed
