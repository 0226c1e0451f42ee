-- What a guest's other bids do to the others. At each station one other at most has its place changed, and only where
-- the guest's own place is.
use Prim.Native.Nat.{ℕ, zero, suc, ◌+◌, ◌-◌, ◌≤◌, ◌<◌}
use mathlib.Core.Bool.{Bool, true, false, not, cond}
use mathlib.Core.Logic.{⊎_elim}
use mathlib.Core.Path.{◌≡◌, refl, sym, ap, ap₂, ◌∙◌}
use native.Mathlib.Nat.{le_refl, le_trans}
use native.Mathlib.Omega.{arith}
use borrow.Author.Tests.{not-true}
use lib.ListN.{get_or, length}
use Rattle.model.specs.Counting.{◌<?◌, ◌=?◌, ◌and◌, only, sum, count}
use Rattle.model.specs.market.Market.{Market, Screened, screen, Queue, queue, before, rank, provisional}
use Rattle.model.specs.market.Mechanism.{truthful}
use Rattle.model.specs.market.Menus.{rivals}
use Rattle.model.specs.market.Changes.{seat_change, change, changes, changed, differ, places_changed}
use Rattle.model.proofs.Tests.{decide, clash, both, first, second, same_test, not_not, only_le, le_only}
use Rattle.model.proofs.Tests.{only_yes, only_no, lt_yes, is_lt, not_lt, eq_no, lt_or_le}
use Rattle.model.proofs.Counting.{sum_mono, sum_swap, count_none, count_one, count_some, count_cong}
use Rattle.model.proofs.Counting.{search_below, length_list, get_d_list, list_cong}
use Rattle.model.proofs.market.Choice.{best_none, best_nothing}
use Rattle.model.proofs.market.Queues.{Distinct, before_total, provisional_candidate, provisional_rank}
use Rattle.model.proofs.market.Queues.{is_provisional, rank_lt, rank_single}
use Rattle.model.proofs.market.Pivots.{without_candidate, candidate_without, rank_without_le}
use Rattle.model.proofs.market.Pivots.{rank_without_ge, rank_without_lt, rank_without_eq, restate, rank_same}
use Rattle.model.proofs.market.Truthful.{Keys}
use Rattle.model.proofs.market.Menus.{rebid, candidates_same, totals_same}

differ_self : (a : Bool) → differ a a ≡ false
unfolding differ
differ_self true = refl
differ_self false = refl

differ_no : (a b : Bool) → differ a b ≡ false → a ≡ b
unfolding differ
differ_no true true e = refl
differ_no true false e = e
differ_no false true e = sym e
differ_no false false e = refl

differ_and : (a x y : Bool) → differ (a and x) (a and y) ≡ true → (a ≡ true) × (differ x y ≡ true)
unfolding differ ◌and◌
differ_and true x y e = (refl, e)
differ_and false x y e = absurd (clash e refl)

seat_stays : (x y : ℕ) → (x ≡ 0 → y ≡ 0) → (y ≡ 0 → x ≡ 0) → seat_change x y ≡ 0
unfolding seat_change
seat_stays zero zero f g = refl
seat_stays zero (suc y) f g = absurd (omega (arith, f refl))
seat_stays (suc x) zero f g = absurd (omega (arith, g refl))
seat_stays (suc x) (suc y) f g = refl

-- ---- one station

module _ (Q : Queue) (D : Distinct Q) (i : ℕ) (li : i < Q.guest_count) where
  -- the bays that are left for the others
  bays_left : ℕ
  bays_left = Q.bays - only (provisional Q i) 1

  module _ (k : ℕ) (lk : k < Q.guest_count) (n : k ≡ i → ⊥) where
    held_without : provisional Q k ≡ true → rank (rivals Q i) k < bays_left
    unfolding bays_left
    held_without h = ⊎_elim
        (λ (q : provisional Q i ≡ true). ⊎_elim
        (λ (e : before Q i k ≡ true). omega (
          arith,
          only_yes (provisional Q i) 1 q,
          provisional_rank Q k h,
          rank_without_lt Q i k li (provisional_candidate Q i q) e,
        ))
        (λ (e : before Q i k ≡ false). omega (
          arith,
          only_yes (provisional Q i) 1 q,
          provisional_rank Q i q,
          rank_without_le Q i k,
          rank_lt Q k i lk (provisional_candidate Q k h) (before_total Q D i k li lk (λ p. n (sym p)) e),
        ))
        (decide (before Q i k)))
        (λ (q : provisional Q i ≡ false).
        omega (arith, only_no (provisional Q i) 1 q, provisional_rank Q k h, rank_without_le Q i k))
        (decide (provisional Q i))

    without_held : Q.candidate k ≡ true → rank (rivals Q i) k < bays_left → provisional Q k ≡ true
    unfolding bays_left
    without_held c r = is_provisional Q k c (⊎_elim
        (λ (q : provisional Q i ≡ true). omega (arith, only_yes (provisional Q i) 1 q, rank_without_ge Q i k))
        (λ (q : provisional Q i ≡ false). ⊎_elim
        (λ (p : (Q.candidate i and before Q i k) ≡ true). ⊎_elim
        (λ (l : rank Q i < Q.bays). absurd (clash (is_provisional Q i (first _ _ p) l) q))
        (λ (l : Q.bays ≤ rank Q i). absurd (omega (
          arith,
          only_no (provisional Q i) 1 q,
          rank_without_ge Q i k,
          rank_lt Q i k li (first _ _ p) (second _ _ p),
        )))
        (lt_or_le (rank Q i) Q.bays))
        (λ (p : (Q.candidate i and before Q i k) ≡ false).
        omega (arith, only_no (provisional Q i) 1 q, rank_without_eq Q i k p))
        (decide (Q.candidate i and before Q i k)))
        (decide (provisional Q i)))

    -- another's place is a matter of the others, and of whether i holds one
    other_held : provisional Q k ≡ ((rivals Q i).candidate k and rank (rivals Q i) k <? bays_left)
    other_held = same_test _ _
        (λ h. both (without_candidate Q i k n (provisional_candidate Q k h)) (is_lt _ _ (held_without h)))
        (λ e. without_held (candidate_without Q i k (first _ _ e)) (lt_yes _ _ (second _ _ e)))

-- a rank that passes by one count of bays left and not by the other is the last
last : (r b : ℕ) (x y : Bool) → differ (r <? (b - only x 1)) (r <? (b - only y 1)) ≡ true → r + 1 ≡ b
last r b x y e = ⊎_elim
    (λ (l : r + 1 < b). absurd (alike (passes x l ∙ sym (passes y l))))
    (λ (l : b ≤ r + 1). ⊎_elim
    (λ (m : r < b). omega arith)
    (λ (m : b ≤ r). absurd (alike (fails x m ∙ sym (fails y m))))
    (lt_or_le r b))
    (lt_or_le (r + 1) b)
  where
    passes : (x : Bool) → r + 1 < b → (r <? (b - only x 1)) ≡ true
    passes x l = is_lt _ _ (omega (arith, only_le x 1 1 (λ _. le_refl 1)))

    fails : (x : Bool) → b ≤ r → (r <? (b - only x 1)) ≡ false
    fails x m = not_lt _ _ (omega arith)

    alike : (r <? (b - only x 1)) ≡ (r <? (b - only y 1)) → ⊥
    alike q = clash e (rw q (differ_self _))

-- the others state the same in both queues: one of them at most has its place changed, and none where i's is as before
module _ (Q : Queue) (D : Distinct Q) (c : ℕ → Bool) (v : ℕ → ℕ) (i : ℕ) (li : i < Q.guest_count)
    (sc : (k : ℕ) → k < Q.guest_count → (k ≡ i → ⊥) → Q.candidate k ≡ c k)
    (sv : (k : ℕ) → k < Q.guest_count → (k ≡ i → ⊥) → Q.total k ≡ v k) where
  abbrev Q' : Queue
  Q' = restate Q c v

  candidate_same :
      (k : ℕ) → k < Q.guest_count → (k ≡ i → ⊥) → (rivals Q' i).candidate k ≡ (rivals Q i).candidate k
  unfolding rivals
  candidate_same k lk n = ap (λ x. not (k =? i) and x) (sym (sc k lk n))

  other_held_after :
      (k : ℕ) → k < Q.guest_count → (k ≡ i → ⊥)
      → provisional Q' k
      ≡ ((rivals Q i).candidate k and rank (rivals Q i) k <? (Q.bays - only (provisional Q' i) 1))
  unfolding bays_left
  other_held_after k lk n =
      other_held Q' D i li k lk n
      ∙ ap₂ (λ x r. x and r <? (Q.bays - only (provisional Q' i) 1)) (candidate_same k lk n)
      (sym (rank_same Q c v i sc sv k lk n))

  -- another's place changed
  abbrev other_changed : ℕ → Bool
  other_changed k = not (k =? i) and differ (provisional Q k) (provisional Q' k)

  is_other : (k : ℕ) → other_changed k ≡ true → k ≡ i → ⊥
  is_other k e = eq_no k i (not-true _ (first _ _ e))

  changed_last :
      (k : ℕ) → k < Q.guest_count → other_changed k ≡ true
      → ((rivals Q i).candidate k ≡ true) × (rank (rivals Q i) k + 1 ≡ Q.bays)
  unfolding bays_left
  changed_last k lk e =
      let n = is_other k e in
      let (w, d) = differ_and _ _ _
      (rw (other_held Q D i li k lk n, other_held_after k lk n) at (second (not (k =? i)) _ e)) in
      (w, last _ _ _ _ d)

  unchanged :
      differ (provisional Q i) (provisional Q' i) ≡ false → (k : ℕ) → k < Q.guest_count → other_changed k ≡ true → ⊥
  unfolding bays_left
  unchanged q k lk e =
      let n = is_other k e in
      let same : provisional Q k ≡ provisional Q' k =
      other_held Q D i li k lk n
      ∙ ap (λ x. (rivals Q i).candidate k and rank (rivals Q i) k <? (Q.bays - only x 1)) (differ_no _ _ q)
      ∙ sym (other_held_after k lk n) in
      clash (second _ _ e) (rw same (differ_self (provisional Q' k)))

  pub others_changed : count Q.guest_count other_changed ≤ only (differ (provisional Q i) (provisional Q' i)) 1
  unfolding rivals
  others_changed = ⊎_elim
      (λ (q : differ (provisional Q i) (provisional Q' i) ≡ true). le_trans
      (count_one Q.guest_count _ (λ k l lk ll p p'.
      let (ck, rk) = changed_last k lk p in
      let (cl, rl) = changed_last l ll p' in
      rank_single (rivals Q i) D k l lk ll ck cl (omega arith)))
      (le_only _ 1 q))
      (λ (q : differ (provisional Q i) (provisional Q' i) ≡ false).
      let none : count Q.guest_count other_changed ≡ 0 = count_none Q.guest_count _ (unchanged q) in omega arith)
      (decide (differ (provisional Q i) (provisional Q' i)))

-- ---- the list of changes

pub change_at :
    (n : ℕ) (before after : ℕ → ℕ) (i k : ℕ) → k < n
    → get_or (changes n before after i) k 0 ≡ change before after i k
unfolding changes
change_at n before after i k lk = get_d_list n _ k lk

pub changes_long : (n : ℕ) (before after : ℕ → ℕ) (i : ℕ) → length (changes n before after i) ≡ n
unfolding changes
changes_long n before after i = length_list n _

pub changes_cong :
    (n : ℕ) (before after before' after' : ℕ → ℕ) (i : ℕ) → ((k : ℕ) → k < n → before k ≡ before' k)
    → ((k : ℕ) → k < n → after k ≡ after' k) → changes n before after i ≡ changes n before' after' i
unfolding changes change
changes_cong n before after before' after' i p q =
    list_cong n _ _ (λ k lk. ap₂ (λ x y. cond (k =? i) 0 (seat_change x y)) (p k lk) (q k lk))

pub places_cong :
    (m : ℕ) (before after before' after' : ℕ → Bool) → ((j : ℕ) → j < m → before j ≡ before' j)
    → ((j : ℕ) → j < m → after j ≡ after' j) → places_changed m before after ≡ places_changed m before' after'
unfolding places_changed
places_cong m before after before' after' p q = count_cong m _ _ (λ j lj. ap₂ differ (p j lj) (q j lj))

changed_counts :
    (n : ℕ) (before after : ℕ → ℕ) (i : ℕ)
    → changed (changes n before after i) ≡ count n (λ k. not (change before after i k =? 0))
unfolding changed changes
changed_counts n before after i =
    rw (length_list n (change before after i)) (count_cong n _ _ (λ k lk. ap (λ x. not (x =? 0)) (get_d_list n _ k lk)))

change_other :
    (before after : ℕ → ℕ) (i k : ℕ) → not (change before after i k =? 0) ≡ true
    → (not (k =? i) ≡ true) × (seat_change (before k) (after k) ≡ 0 → ⊥)
unfolding change
change_other before after i k e = ⊎_elim
    (λ (q : (k =? i) ≡ true). absurd (eq_no 0 0 (not-true _ (rw q at e)) refl))
    (λ (q : (k =? i) ≡ false). (not_not q, eq_no _ _ (not-true _ (rw q at e))))
    (decide (k =? i))

-- ---- the market with other bids of guest i

module _ (M : Market) (K : Keys M.key M.guest_count) (i : ℕ) (li : i < M.guest_count) (b : ℕ → ℕ → ℕ)
    (alike : (k j : ℕ) → k < M.guest_count → j < M.station_count → (k ≡ i → ⊥) → b k j ≡ M.bid k j) where
  abbrev S : Screened
  S = screen M

  abbrev S' : Screened
  S' = screen (rebid M b)

  -- each guest's station
  abbrev A : ℕ → ℕ
  A = (truthful S).assigned

  abbrev A' : ℕ → ℕ
  A' = (truthful S').assigned

  -- guest k's place at station j changed
  abbrev place_changed : ℕ → ℕ → Bool
  place_changed k j = differ (provisional (queue S j) k) (provisional (queue S' j) k)

  at_station :
      (j : ℕ) → j < M.station_count
      → count M.guest_count (λ k. not (k =? i) and place_changed k j) ≤ only (place_changed i j) 1
  unfolding queue screen
  at_station j lj =
      let there : (k : ℕ) → k < M.guest_count → (k ≡ i → ⊥) → b k j ≡ M.bid k j = λ k lk n. alike k j lk lj n in
      others_changed (queue S j) K _ _ i li (candidates_same M i b j there) (totals_same M i b j there)

  -- whoever becomes assigned or unassigned has its place changed at some station
  unassigned_still :
      (k : ℕ) → ((j : ℕ) → j < M.station_count → place_changed k j ≡ false)
      → (A k ≡ 0 → A' k ≡ 0) × (A' k ≡ 0 → A k ≡ 0)
  unfolding truthful screen
  unassigned_still k all = (
    λ e. best_nothing _ _ _ (λ j lj. sym (differ_no _ _ (all j lj)) ∙ best_none _ _ _ e j lj),
    λ e. best_nothing _ _ _ (λ j lj. differ_no _ _ (all j lj) ∙ best_none _ _ _ e j lj),
  )

  somewhere : (k : ℕ) → (seat_change (A k) (A' k) ≡ 0 → ⊥) → 0 < count M.station_count (place_changed k)
  somewhere k c = ⊎_elim
      (λ (j, lj, p). count_some M.station_count _ j lj p)
      (λ all. let (there, back) = unassigned_still k all in absurd (c (seat_stays _ _ there back)))
      (search_below M.station_count (place_changed k))

  -- guest k's place at station j counts where k is another than i
  cell : ℕ → ℕ → ℕ
  cell k j = only (not (k =? i) and place_changed k j) 1

  by_guest : (k : ℕ) → only (not (change A A' i k =? 0)) 1 ≤ sum M.station_count (cell k)
  unfolding cell count
  by_guest k = only_le _ _ _ (λ e.
      let (n, c) = change_other A A' i k e in
      le_trans (somewhere k c)
      (sum_mono M.station_count _ _ (λ j lj. only_le _ _ _ (λ q. le_only _ 1 (both n q)))))

  pub few_changed :
      changed (changes M.guest_count A A' i)
      ≤ places_changed M.station_count (λ j. provisional (queue S j) i) (λ j. provisional (queue S' j) i)
  unfolding places_changed count cell
  few_changed =
      let guests : sum M.guest_count (λ k. only (not (change A A' i k =? 0)) 1)
      ≤ sum M.guest_count (λ k. sum M.station_count (cell k)) =
      sum_mono M.guest_count _ _ (λ k lk. by_guest k) in
      let stations : sum M.station_count (λ j. sum M.guest_count (λ k. cell k j))
      ≤ sum M.station_count (λ j. only (place_changed i j) 1) =
      sum_mono M.station_count _ _ at_station in
      omega (
        arith,
        changed_counts M.guest_count A A' i,
        sum_swap M.guest_count M.station_count cell,
      )
