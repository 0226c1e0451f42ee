-- One station's list: the critical total of the others with one bay fewer, and who wins a tie there.
use Prim.Native.Nat.{ℕ, ◌+◌, ◌*◌, ◌-◌, ◌≤◌, ◌<◌, max}
use mathlib.Core.Bool.{Bool, true, false, not, cond}
use mathlib.Core.List.{List}
use mathlib.Core.Logic.{⊎_elim}
use mathlib.Core.Path.{◌≡◌, refl, sym, ap, ap₂, ◌∙◌}
use native.Mathlib.Nat.{le_refl, mul-le-mul}
use native.Mathlib.Omega.{arith}
use lib.Dec.{ltb}
use lib.ListN.{get_or, length, set, length-set}
use lib.Seq.{get_or-set_same, get_or-set_other}
use borrow.Author.Tests.{not-true}
use Rattle.model.specs.Limits.{max_guests}
use Rattle.model.specs.Counting.{◌<?◌, ◌≤?◌, ◌=?◌, ◌and◌, only, list}
use Rattle.model.specs.market.Market.{Tables, bid_at, Queue, queue, first_out, critical}
use Rattle.model.specs.market.Menus.{rivals, loses_tie, no_bar}
use Rattle.model.specs.claims.Meaning.{WithinLimits}
use Rattle.model.proofs.Tests.{decide, clash, both, first, second, same_test, not_not, only_yes, only_no, only_le}
use Rattle.model.proofs.Tests.{lt_yes}
use Rattle.model.proofs.Tests.{le_yes, le_no, eq_yes, eq_no, is_lt, not_lt, is_eq, not_eq, lt_or_le, eq_or_ne}
use Rattle.model.proofs.Counting.{count_mono, count_strict, count_none, count_most, search_below, some_yes}
use Rattle.model.proofs.Counting.{none_some, le_greatest, greatest_le}
use Rattle.model.proofs.Loops.{long, element, in_table}
use Rattle.model.proofs.market.Acceptance.{same_place}
use Rattle.model.proofs.market.FirstOut.{some_first_out}
use Rattle.model.proofs.market.Queues.{first_out_lem}
use Rattle.allocation.specs.Screens.{screened_at}
use Rattle.allocation.specs.Selection.{above, Selected}
use Rattle.allocation.specs.Ties.{ties_below}
use Rattle.allocation.specs.Totals.{max_total, Totals, total_at, Gathered}
use Rattle.allocation.proofs.selection.Selection.{selected_low}
use Rattle.allocation.proofs.totals.Totals.{total_yes, total_no, total_low}
use Rattle.allocation.proofs.selection.Winners.{Shows, critical_is, rank_tied}
use Rattle.menu.specs.Listing.{bar_at, price_at}

-- ---- how many at t have a lower ticket

ties_rise : (l tickets : List ℕ) (t x y : ℕ) → x ≤ y → ties_below l tickets t x ≤ ties_below l tickets t y
unfolding ties_below
ties_rise l tickets t x y h =
    count_mono (length l) _ _ (λ k _ p. both (first _ _ p) (is_lt _ _ (omega (arith, lt_yes _ _ (second _ _ p)))))

ties_more :
    (l tickets : List ℕ) (t k y : ℕ) → k < length l → get_or l k 0 ≡ t → get_or tickets k 0 < y
    → ties_below l tickets t (get_or tickets k 0) < ties_below l tickets t y
unfolding ties_below
ties_more l tickets t k y lk e h = count_strict (length l) _ _
    (λ q _ p. both (first _ _ p) (is_lt _ _ (omega (arith, lt_yes _ _ (second _ _ p)))))
    k lk (⊎_elim
    (λ (q : (get_or l k 0 =? t and get_or tickets k 0 <? get_or tickets k 0) ≡ true).
    absurd (omega (arith, lt_yes _ _ (second _ _ q))))
    (λ q. q)
    (decide (get_or l k 0 =? t and get_or tickets k 0 <? get_or tickets k 0)))
    (both (is_eq _ _ e) (is_lt _ _ h))

-- ---- an entry

pub entry_bar :
    (least f : ℕ) {n p q r : ℕ} (loses : Bool) → n ≡ only loses 1 → p ≡ f + n → q ≡ max least p → r ≡ q
    → r ≡ max least (f + only loses 1)
entry_bar least f loses e h g k = k ∙ g ∙ ap (max least) (h ∙ ap (λ x. f + x) e)

-- ---- a station that is not open

pub closed_bar : (t : Tables) (c i j : ℕ) → c ≤ get_or t.asks j 0 → no_bar ≡ bar_at t c i j
unfolding bar_at
closed_bar t c i j l = rw (not_lt (get_or t.asks j 0) c l) refl

pub closed_price : (t : Tables) (c i j : ℕ) → c ≤ get_or t.asks j 0 → 0 ≡ price_at t c i j
unfolding price_at
closed_price t c i j l = sym (only_no _ _ (not_lt _ _ l))

-- ---- the rivals at an open station

module _ (t : Tables) (c : ℕ) (w : WithinLimits t) (i : ℕ) (li : i < length t.amounts) (j : ℕ)
    (lj : j < length t.asks) (op : get_or t.asks j 0 < c) (totals : List ℕ)
    (gathered : totals ≡ list (length t.amounts) (total_at t.bids t.amounts (length t.asks) j c)) where
  abbrev Q : Queue
  Q = queue (screened_at t c) j

  abbrev R : Queue
  R = rivals Q i

  -- the totals with i's own left out
  abbrev xs : List ℕ
  xs = set totals i 0

  candidate_is : (k : ℕ) → Q.candidate k ≡ (c ≤? bid_at t k j)
  unfolding queue screened_at ◌and◌
  candidate_is k = rw (is_lt _ _ op) refl

  total_at_lem :
      (k : ℕ) → k < length t.amounts
      → get_or totals k 0 ≡ total_at t.bids t.amounts (length t.asks) j c k
  total_at_lem k lk = element _ _ gathered k lk

  candidate_total : (k : ℕ) → k < length t.amounts → Q.candidate k ≡ true → get_or totals k 0 ≡ Q.total k
  unfolding queue screened_at bid_at
  candidate_total k lk q = total_at_lem k lk ∙ sym (total_yes _ _ c (le_yes _ _ (sym (candidate_is k) ∙ q)))

  no_candidate_total : (k : ℕ) → k < length t.amounts → Q.candidate k ≡ false → get_or totals k 0 ≡ 0
  unfolding bid_at
  no_candidate_total k lk q = total_at_lem k lk ∙ sym (total_no _ _ c (le_no _ _ (sym (candidate_is k) ∙ q)))

  candidate_real : (k : ℕ) → k < length t.amounts → Q.candidate k ≡ true → 0 < Q.total k
  unfolding queue screened_at
  candidate_real k lk q =
      let b : c ≤ bid_at t k j = le_yes _ _ (sym (candidate_is k) ∙ q) in
      positive _ _ (omega arith) (w.amount_least k lk)
    where
      positive : (x y : ℕ) → 1 ≤ x → 1 ≤ y → 0 < x * y
      positive x y a b = mul-le-mul a b

  totals_long : length totals ≡ length t.amounts
  totals_long = long _ _ gathered

  left_out : (k : ℕ) → (not (k =? i) and Q.candidate k) ≡ true → k ≡ i → ⊥
  left_out k q = eq_no k i (not-true _ (first _ _ q))

  pub shows_rivals : Shows R xs t.tickets
  unfolding rivals queue screened_at
  shows_rivals = record {
    long = length-set totals i 0 ∙ totals_long;
    some = λ k lk q. get_or-set_other totals i k 0 0 (left_out k q) ∙ candidate_total k lk (second _ _ q);
    none = λ k lk q. ⊎_elim
        (λ (e : k ≡ i). rw e (get_or-set_same totals i 0 0 (omega (arith, totals_long))))
        (λ (n : k ≡ i → ⊥). get_or-set_other totals i k 0 0 n ∙ ⊎_elim
        (λ (p : Q.candidate k ≡ true). absurd (clash (both (not_not (not_eq k i n)) p) q))
        (λ (p : Q.candidate k ≡ false). no_candidate_total k lk p)
        (decide (Q.candidate k)))
        (eq_or_ne k i);
    real = λ k lk q. candidate_real k lk (second _ _ q);
    ticket = λ k. refl;
    distinct = λ k l lk ll e. same_place t.tickets w.tickets_differ k l
        (omega (arith, w.shape.tickets_length)) (omega (arith, w.shape.tickets_length)) e;
  }

  -- the totals with i's own left out are few, and within the limits
  pub xs_long : length xs ≡ length t.amounts
  xs_long = length-set totals i 0 ∙ totals_long

  pub xs_few : length xs ≤ max_guests
  xs_few = omega (arith, xs_long, w.shape.guests_most)

  total_most : (k : ℕ) → k < length t.amounts → get_or totals k 0 ≤ max_total
  total_most k lk =
      rw (total_at_lem k lk) (total_low _ _ c
      (w.bid_most _
      (omega (arith, w.shape.bids_length, in_table (length t.amounts) (length t.asks) k j lk lj)))
      (w.amount_most k lk))

  -- each is at most the total that was there
  xs_below : (k : ℕ) → k < length t.amounts → get_or xs k 0 ≤ get_or totals k 0
  xs_below k lk = ⊎_elim
      (λ (e : k ≡ i). rw e (omega (arith, get_or-set_same totals i 0 0 (omega (arith, totals_long)))))
      (λ (n : k ≡ i → ⊥). omega (arith, get_or-set_other totals i k 0 0 n))
      (eq_or_ne k i)

  pub xs_low : Totals xs
  xs_low k lk =
      let l : k < length t.amounts = omega (arith, xs_long) in omega (arith, xs_below k l, total_most k l)

  module _ {top : ℕ}
      (g : Gathered (length t.amounts) (total_at t.bids t.amounts (length t.asks) j c) totals top) where
    pub top_low : top ≤ max_total
    top_low =
        rw g.greatest_is
        (greatest_le (length t.amounts) _ max_total (λ k lk. omega (arith, total_at_lem k lk, total_most k lk)))

    pub none_above : above xs top ≡ 0
    unfolding above
    none_above = count_none (length xs) _ (λ k lk p.
        let l : k < length t.amounts = omega (arith, xs_long) in
        omega (
          arith,
          lt_yes _ _ p,
          xs_below k l,
          total_at_lem k l,
          g.greatest_is,
          le_greatest (length t.amounts) (total_at t.bids t.amounts (length t.asks) j c) k l,
        ))

    pub critical_low : {b f a : ℕ} → Selected xs b f a → f ≤ max_total
    critical_low s = omega (arith, selected_low {top = top} s none_above, top_low)

  pub above_few : (b f a : ℕ) → Selected xs b f a → a ≤ max_guests
  unfolding above
  above_few b f a s = omega (arith, s.counted, count_most (length xs) (λ k. f <? get_or xs k 0), xs_few)

  pub ties_few : (f x : ℕ) → ties_below xs t.tickets f x ≤ max_guests
  unfolding ties_below
  ties_few f x =
      omega (arith, count_most (length xs) (λ k. get_or xs k 0 =? f and get_or t.tickets k 0 <? x), xs_few)

  module _ (b f a : ℕ) (eb : b ≡ get_or t.bays j 0 - 1) (s : Selected xs b f a) where
    bays_are : R.bays ≡ b
    unfolding rivals queue screened_at
    bays_are = sym eb

    pub critical_here : f ≡ critical R
    critical_here = critical_is R xs t.tickets shows_rivals f (rw bays_are s.least_few)

    -- the first rival without a place, at the critical total
    out_rank :
        (k : ℕ) → 0 < f → k < length t.amounts → first_out R k ≡ true
        → b ≡ a + ties_below xs t.tickets f (get_or t.tickets k 0)
    unfolding first_out rivals queue screened_at
    out_rank k p lk o =
        sym bays_are ∙ sym (eq_yes _ _ (second _ _ o))
        ∙ rank_tied R xs t.tickets shows_rivals k f p
        (sym (first_out_lem R shows_rivals.distinct k lk o) ∙ sym critical_here)
        ∙ ap (λ x. x + ties_below xs t.tickets f (get_or t.tickets k 0)) (sym s.counted)

    out_total : (k : ℕ) → k < length t.amounts → first_out R k ≡ true → get_or xs k 0 ≡ f
    unfolding first_out rivals queue screened_at
    out_total k lk o =
        shows_rivals.some k lk (first _ _ o) ∙ sym (first_out_lem R shows_rivals.distinct k lk o) ∙ sym critical_here

    -- i loses a tie where as many as there are bays, its own among them, would stand before it
    loses_here :
        0 < f → (b <? a + ties_below xs t.tickets f (get_or t.tickets i 0)) ≡ loses_tie Q i
    unfolding loses_tie rivals queue screened_at
    loses_here p =
        let (k, lk, o) = some_first_out R shows_rivals.distinct (omega (arith, critical_here)) in
        same_test _ _
        (λ e. ⊎_elim
        (λ (l : get_or t.tickets k 0 < get_or t.tickets i 0).
        some_yes (length t.amounts) _ k lk (both o (is_lt _ _ l)))
        (λ (l : get_or t.tickets i 0 ≤ get_or t.tickets k 0).
        absurd (omega (arith, lt_yes _ _ e, out_rank k p lk o, ties_rise xs t.tickets f _ _ l)))
        (lt_or_le (get_or t.tickets k 0) (get_or t.tickets i 0)))
        (λ e. ⊎_elim
        (λ (q, lq, h). is_lt _ _ (omega (
          arith,
          out_rank q p lq (first _ _ h),
          ties_more xs t.tickets f q _ (omega (arith, length-set totals i 0, totals_long))
              (out_total q lq (first _ _ h)) (lt_yes _ _ (second _ _ h)),
        )))
        (λ none. absurd (clash e (none_some (length t.amounts) _ none)))
        (search_below (length t.amounts) (λ k. first_out R k and get_or t.tickets k 0 <? get_or t.tickets i 0)))

    -- at a critical total of 0 the least charge decides
    pub bar_here :
        max (c * get_or t.amounts i 0)
        (f + only (b <? a + ties_below xs t.tickets f (get_or t.tickets i 0)) 1)
        ≡ max (c * get_or t.amounts i 0) (critical R + only (loses_tie Q i) 1)
    bar_here = ⊎_elim
        (λ (p : 0 < f).
        ap₂ (λ x y. max (c * get_or t.amounts i 0) (x + only y 1)) critical_here (loses_here p))
        (λ (p : f ≤ 0).
        let least : 1 ≤ c * get_or t.amounts i 0 = mul-le-mul {n₁ = 1} {m₁ = 1} (omega arith) (w.amount_least i li) in
        omega (
          arith,
          critical_here,
          only_le (b <? a + ties_below xs t.tickets f (get_or t.tickets i 0)) 1 1 (λ _. le_refl 1),
          only_le (loses_tie Q i) 1 1 (λ _. le_refl 1),
        ))
        (lt_or_le 0 f)

    -- what the code comes to
    pub bar_is :
        {tied r : ℕ} → tied ≡ ties_below xs t.tickets f (get_or t.tickets i 0)
        → r ≡ max (c * get_or t.amounts i 0) (f + only (ltb b (a + tied)) 1) → r ≡ bar_at t c i j
    unfolding bar_at ◌<?◌
    bar_is {tied} e h =
        h ∙ ap (λ x. max (c * get_or t.amounts i 0) (f + only (ltb b (a + x)) 1)) e ∙ bar_here
        ∙ sym (ap (λ o. cond o (max (c * get_or t.amounts i 0) (critical R + only (loses_tie Q i) 1)) no_bar)
        (is_lt _ _ op))

    pub price_is : {r : ℕ} → r ≡ max (c * get_or t.amounts i 0) f → r ≡ price_at t c i j
    unfolding price_at
    price_is h = h ∙ ap (max (c * get_or t.amounts i 0)) critical_here ∙ sym (only_yes _ _ (is_lt _ _ op))
