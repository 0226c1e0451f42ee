-- Chains of holders, as a guest is put into a slot: at the head, or in the place of another.
use Rattle.std.proofs.Common.{◌≡◌, ℕ, zero, suc, ◌+◌, ◌-◌, ◌<◌, ◌≤◌, List, length, set, sym, refl, ap, ◌∙◌, ⊎_elim}
use Rattle.std.proofs.Common.{◌⊎◌, inl, inr, arith, length-set, get_or-set_other, get_or-set_same}
use Rattle.model.proofs.Tests.{eq_or_ne, lt_or_le, is_lt, not_lt, only_yes, only_no}
use Rattle.quiet.specs.Efficient.{of}
use Rattle.quiet.specs.Seating.{link, Chain, At, Relinked, Seating, seating}
use Rattle.quiet.proofs.seats.Slots.{link_suc, link_same}

-- a chain is the same where its slots and their nexts are
pub chain_same :
    {n h first first' : ℕ} {nexts nexts' : List ℕ} {slot slot' : ℕ → ℕ} → first' ≡ first
    → ((q : ℕ) → q < h → slot' q ≡ slot q) → ((q : ℕ) → q < h → of nexts' (slot q) ≡ of nexts (slot q))
    → Chain n h slot first nexts → Chain n h slot' first' nexts'
chain_same {h = h} {nexts' = nexts'} {slot} {slot'} e same kept c = record {
  first_is = e ∙ c.first_is ∙ link_same slot slot' h (λ k l. sym (same k l));
  next_is = λ q l. ap (of nexts') (same q l) ∙ kept q l ∙ c.next_is q l
      ∙ link_same slot slot' q (λ k lk. sym (same k (omega arith)));
  guests = λ q l. rw (same q l) (c.guests q l);
}

-- guest x at the head
pub chain_more :
    {n h first x : ℕ} {nexts nexts' : List ℕ} {slot slot' : ℕ → ℕ} → x < n → slot' h ≡ x
    → ((q : ℕ) → q < h → slot' q ≡ slot q) → of nexts' x ≡ first
    → ((q : ℕ) → q < h → of nexts' (slot q) ≡ of nexts (slot q))
    → Chain n h slot first nexts → Chain n (h + 1) slot' (suc x) nexts'
unfolding link
chain_more {h = h} {x = x} {nexts' = nexts'} {slot} {slot'} lx here same own kept c = record {
  first_is = sym (link_suc slot' (h + 1) (omega arith)
      ∙ ap suc (ap slot' (let up : h + 1 - 1 ≡ h = omega arith in up) ∙ here));
  next_is = λ q l. ⊎_elim
      (λ (z : q < h). ap (of nexts') (same q z) ∙ kept q z ∙ c.next_is q z
      ∙ link_same slot slot' q (λ k lk. sym (same k (omega arith))))
      (λ (z : h ≤ q). let q_is : q ≡ h = omega arith in
      rw q_is (ap (of nexts') here ∙ own ∙ c.first_is ∙ link_same slot slot' h (λ k lk. sym (same k lk))))
      (lt_or_le q h);
  guests = λ q l. ⊎_elim
      (λ (z : q < h). rw (same q z) (c.guests q z))
      (λ (z : h ≤ q). let q_is : q ≡ h = omega arith in rw (q_is, here) lx)
      (lt_or_le q h);
}

-- guest x in slot p, in the place of whoever was there
module _ {n h first p x : ℕ} {nexts : List ℕ} {slot : ℕ → ℕ} (slot' : ℕ → ℕ) (nexts' : List ℕ) (lx : x < n)
    (lp : p < h) (here : slot' p ≡ x) (same : (q : ℕ) → (q ≡ p → ⊥) → slot' q ≡ slot q)
    (own : of nexts' x ≡ of nexts (slot p)) (c : Chain n h slot first nexts) where
  link_below : (q : ℕ) → q ≤ p → link slot q ≡ link slot' q
  link_below q l = link_same slot slot' q (λ k lk. sym (same k (λ e. omega arith)))

  link_other : (q : ℕ) → (q ≡ suc p → ⊥) → link slot q ≡ link slot' q
  unfolding link
  link_other zero ne = refl
  link_other (suc q) ne = ap suc (sym (same q (λ e. ne (ap suc e))))

  swapped_guests : (q : ℕ) → q < h → slot' q < n
  swapped_guests q l = ⊎_elim
      (λ (e : q ≡ p). rw (e, here) lx)
      (λ (ne : q ≡ p → ⊥). rw (same q ne) (c.guests q l))
      (eq_or_ne q p)

  own_next : of nexts' (slot' p) ≡ link slot' p
  own_next = ap (of nexts') here ∙ own ∙ c.next_is p lp ∙ link_below p (omega arith)

  -- it is the first one
  pub chain_head :
      {first' : ℕ} → suc p ≡ h → first' ≡ suc x
      → ((q : ℕ) → q < h → (q ≡ p → ⊥) → of nexts' (slot q) ≡ of nexts (slot q))
      → Chain n h slot' first' nexts'
  unfolding link
  chain_head top e kept = record {
    first_is = e ∙ sym (ap (link slot') (sym top) ∙ ap suc here);
    next_is = λ q l. ⊎_elim
        (λ (z : q ≡ p). rw z own_next)
        (λ (ne : q ≡ p → ⊥). ap (of nexts') (same q ne) ∙ kept q l ne ∙ c.next_is q l
        ∙ link_other q (λ z. omega arith))
        (eq_or_ne q p);
    guests = swapped_guests;
  }

  -- there is one before it
  pub chain_inner :
      {first' : ℕ} → suc p < h → first' ≡ first → of nexts' (slot (suc p)) ≡ suc x
      → ((q : ℕ) → q < h → (q ≡ p → ⊥) → (q ≡ suc p → ⊥) → of nexts' (slot q) ≡ of nexts (slot q))
      → Chain n h slot' first' nexts'
  unfolding link
  chain_inner inner e above kept = record {
    first_is = e ∙ c.first_is ∙ link_other h (λ z. omega arith);
    next_is = λ q l. ⊎_elim
        (λ (z : q ≡ p). rw z own_next)
        (λ (ne : q ≡ p → ⊥). ⊎_elim
        (λ (z : q ≡ suc p). rw z (ap (of nexts') (same (suc p) (λ w. omega arith)) ∙ above ∙ ap suc (sym here)))
        (λ (ne_up : q ≡ suc p → ⊥). ap (of nexts') (same q ne) ∙ kept q l ne ne_up ∙ c.next_is q l
        ∙ link_other q ne_up)
        (eq_or_ne q (suc p)))
        (eq_or_ne q p);
    guests = swapped_guests;
  }

-- ---- the lists after `relink`

module _ {j x h : ℕ} {R R' : Seating} {slot : ℕ → ℕ}
    (r : Relinked j x R R') (a : At slot h (of R.lasts j) (of R.befores j))
    (lj : j < length R.firsts) (lx : x < length R.nexts) (inside : (q : ℕ) → q < h → slot q < length R.nexts)
    (not_x : (q : ℕ) → q < h → slot q ≡ x → ⊥) where
  abbrev before : ℕ
  before = of R.befores j

  abbrev y : ℕ
  y = of R.lasts j

  abbrev firsts : List ℕ
  firsts = R.firsts

  abbrev nexts : List ℕ
  nexts = R.nexts

  abbrev firsts' : List ℕ
  firsts' = R'.firsts

  abbrev nexts' : List ℕ
  nexts' = R'.nexts

  -- what `relink` leaves, list by list
  links :
      ((before ≡ 0) × (firsts' ≡ set firsts j (suc x)) × (nexts' ≡ set nexts x (of nexts y)))
      ⊎ ((before ≡ 0 → ⊥) × (firsts' ≡ firsts)
      × (nexts' ≡ set (set nexts x (of nexts y)) (before - 1) (suc x)))
  links = ⊎_elim
      (λ (z, e). inl (z, ap (λ r. r.firsts) e, ap (λ r. r.nexts) e))
      (λ (z, e). inr (z, ap (λ r. r.firsts) e, ap (λ r. r.nexts) e))
      r.links

  pub relinked_is : R' ≡ seating R.chosen R.held firsts' nexts' R.lasts R.befores R.bars
  relinked_is = ⊎_elim (λ (_, e). rw e refl) (λ (_, e). rw e refl) r.links

  abbrev p : ℕ
  p = a.place

  -- no number before: y was the first
  is_head : before ≡ 0 → suc p ≡ h
  is_head z = ⊎_elim
      (λ (l : suc p < h).
      absurd (let e : before ≡ suc (slot (suc p)) = a.before_is ∙ only_yes _ _ (is_lt _ _ l) in omega arith))
      (λ (l : h ≤ suc p). omega (arith, a.within))
      (lt_or_le (suc p) h)

  is_inner : (before ≡ 0 → ⊥) → (suc p < h) × (before - 1 ≡ slot (suc p))
  is_inner ne = ⊎_elim
      (λ (l : suc p < h). (
        l,
        let e : before ≡ suc (slot (suc p)) = a.before_is ∙ only_yes _ _ (is_lt _ _ l) in omega arith,
      ))
      (λ (l : h ≤ suc p). absurd (ne (a.before_is ∙ only_no _ _ (not_lt _ _ l))))
      (lt_or_le (suc p) h)

  pub relinked_others : (l : ℕ) → (l ≡ j → ⊥) → of firsts' l ≡ of firsts l
  relinked_others l ne = ⊎_elim
      (λ (_, e, _). ap (λ f. of f l) e ∙ get_or-set_other firsts j l _ 0 ne)
      (λ (_, e, _). ap (λ f. of f l) e)
      links

  -- whoever is not x and not in this chain has its next as before
  pub relinked_elsewhere :
      (g : ℕ) → (g ≡ x → ⊥) → ((q : ℕ) → q < h → g ≡ slot q → ⊥) → of nexts' g ≡ of nexts g
  relinked_elsewhere g ne away = ⊎_elim
      (λ (_, _, e). ap (λ f. of f g) e ∙ get_or-set_other nexts x g _ 0 ne)
      (λ (inner, _, e). let (l, z) = is_inner inner in
      ap (λ f. of f g) e
      ∙ get_or-set_other (set nexts x (of nexts y)) (before - 1) g _ 0 (λ w. away (suc p) l (w ∙ z))
      ∙ get_or-set_other nexts x g _ 0 ne)
      links

  pub relinked_lengths : (length firsts' ≡ length firsts) × (length nexts' ≡ length nexts)
  relinked_lengths = ⊎_elim
      (λ (_, e, f). (ap length e ∙ length-set firsts j _, ap length f ∙ length-set nexts x _))
      (λ (_, e, f). (
        ap length e,
        ap length f ∙ length-set (set nexts x (of nexts y)) (before - 1) _ ∙ length-set nexts x _,
      ))
      links

  pub relinked_chain :
      {n : ℕ} {slot' : ℕ → ℕ} → x < n → ((q k : ℕ) → q < h → k < h → slot q ≡ slot k → q ≡ k) → slot' p ≡ x
      → ((q : ℕ) → (q ≡ p → ⊥) → slot' q ≡ slot q) → Chain n h slot (of firsts j) nexts
      → Chain n h slot' (of firsts' j) nexts'
  relinked_chain {n} {slot'} ln once here same c = ⊎_elim
      (λ (z, e, f).
      let next_at : (g : ℕ) → of nexts' g ≡ of (set nexts x (of nexts y)) g = λ g. ap (λ l. of l g) f in
      chain_head slot' nexts' ln a.within here same
      (next_at x ∙ get_or-set_same nexts x _ 0 lx ∙ ap (of nexts) a.guest_is) c (is_head z)
      (ap (λ l. of l j) e ∙ get_or-set_same firsts j _ 0 lj)
      (λ q l ne. next_at (slot q) ∙ get_or-set_other nexts x (slot q) _ 0 (not_x q l)))
      (λ (ne, e, f).
      let (l, z) = is_inner ne in
      let low : before - 1 < length (set nexts x (of nexts y)) =
      omega (arith, length-set nexts x (of nexts y), inside (suc p) l) in
      let next_at : (g : ℕ) → of nexts' g ≡ of (set (set nexts x (of nexts y)) (before - 1) (suc x)) g =
      λ g. ap (λ l. of l g) f in
      let other : (g : ℕ) → (g ≡ slot (suc p) → ⊥) → of nexts' g ≡ of (set nexts x (of nexts y)) g =
      λ g nz. next_at g ∙ get_or-set_other (set nexts x (of nexts y)) (before - 1) g _ 0 (λ w. nz (w ∙ z)) in
      chain_inner slot' nexts' ln a.within here same
      (other x (λ w. not_x (suc p) l (sym w)) ∙ get_or-set_same nexts x _ 0 lx ∙ ap (of nexts) a.guest_is) c l
      (ap (λ l. of l j) e)
      (next_at (slot (suc p)) ∙ ap (of (set (set nexts x (of nexts y)) (before - 1) (suc x))) (sym z)
      ∙ get_or-set_same (set nexts x (of nexts y)) (before - 1) _ 0 low)
      (λ q lq _ ne_up. other (slot q) (λ w. ne_up (once q (suc p) lq l w))
      ∙ get_or-set_other nexts x (slot q) _ 0 (not_x q lq)))
      links
