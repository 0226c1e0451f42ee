-- The greatest key names the station that the price list's rule chooses.
use Prim.Native.Nat.{ℕ, suc, ◌+◌, ◌*◌, ◌-◌, ◌/◌, ◌%◌, ◌≤◌, ◌<◌}
use mathlib.Core.Bool.{Bool, true, false}
use mathlib.Core.List.{List}
use mathlib.Core.Logic.{◌⊎◌, inl, inr, ⊎_elim}
use mathlib.Core.Path.{◌≡◌, sym, ap, ◌∙◌}
use native.Mathlib.Nat.{le_refl, le_antisymm, mod-lt, add-mul, mul-le-mul_right, div-add-mod', div-lt_iff_lt-mul}
use native.Mathlib.Nat.{eq-or-lt_of_le}
use native.Mathlib.Omega.{arith}
use lib.ListN.{get_or, length}
use Rattle.model.specs.Counting.{◌≤?◌, greatest, count}
use Rattle.model.specs.market.Mechanism.{best}
use Rattle.model.specs.market.Menus.{PriceList}
use Rattle.model.proofs.Tests.{decide, both, first, second, same_test, or_cases, or_left, or_right, only_yes, only_no}
use Rattle.model.proofs.Tests.{lt_yes, le_yes, eq_yes, is_lt, is_le, is_eq, lt_or_le, eq_or_ne}
use Rattle.model.proofs.Counting.{count_strict, count_most, le_greatest, greatest_le}
use Rattle.model.proofs.market.Choice.{best_holds, best_best, best_lowest, best_none}
use Rattle.menu.specs.Keys.{rest_before, goes_before, label, least_bid, key, Priced}

-- ---- the order of stations, and their labels

module _ (prices : List ℕ) (amount : ℕ) where
  abbrev rest : ℕ → ℕ
  rest k = get_or prices k 0 % amount

  -- the order as a fact
  abbrev Before : ℕ → ℕ → Type 0
  Before k j = (rest k < rest j) ⊎ ((rest k ≡ rest j) × (k < j))

  before : (k j : ℕ) → goes_before prices amount k j ≡ true → Before k j
  unfolding goes_before rest_before
  before k j e = ⊎_elim
      (λ t. inl (lt_yes _ _ t))
      (λ t. inr (eq_yes _ _ (first _ _ t), lt_yes _ _ (second _ _ t)))
      (or_cases _ _ e)

  is_before : (k j : ℕ) → Before k j → goes_before prices amount k j ≡ true
  unfolding goes_before rest_before
  is_before k j (inl l) = or_left _ _ (is_lt _ _ l)
  is_before k j (inr q) = or_right _ _ (both (is_eq _ _ q.0) (is_lt _ _ q.1))

  before_trans : (a b c : ℕ) → Before a b → Before b c → Before a c
  before_trans a b c (inl x) (inl y) = inl (omega arith)
  before_trans a b c (inl x) (inr y) = inl (omega arith)
  before_trans a b c (inr x) (inl y) = inl (omega arith)
  before_trans a b c (inr x) (inr y) = inr (omega arith)

  not_before : (a : ℕ) → goes_before prices amount a a ≡ false
  not_before a = ⊎_elim
      (λ (e : goes_before prices amount a a ≡ true).
      absurd (⊎_elim (λ (l : rest a < rest a). omega arith) (λ (q, l). omega arith) (before a a e)))
      (λ e. e)
      (decide (goes_before prices amount a a))

  -- whoever goes before has the greater label
  pub label_falls : (k j : ℕ) → j < length prices → Before k j → label prices amount j < label prices amount k
  unfolding label
  label_falls k j lj b =
      let more : count (length prices) (λ l. goes_before prices amount j l)
      < count (length prices) (λ l. goes_before prices amount k l) =
      count_strict (length prices) _ _ (λ l ll p. is_before k l (before_trans k j l b (before j l p))) j lj
      (not_before j) (is_before k j b) in
      omega arith

  pub label_most : (j : ℕ) → label prices amount j ≤ length prices + 1
  unfolding label
  label_most j = omega (arith, count_most (length prices) (λ k. goes_before prices amount j k))

  pub label_least : (j : ℕ) → 1 ≤ label prices amount j
  unfolding label
  label_least j = omega arith

  -- no two stations have one label
  pub label_single :
      (k j : ℕ) → k < length prices → j < length prices → label prices amount k ≡ label prices amount j → k ≡ j
  label_single k j lk lj e = ⊎_elim
      (λ (q : k ≡ j). q)
      (λ (n : k ≡ j → ⊥). absurd (⊎_elim
      (λ (l : rest k < rest j). omega (arith, label_falls k j lj (inl l)))
      (λ (l : rest j ≤ rest k). ⊎_elim
      (λ (q : rest j ≡ rest k). ⊎_elim
      (λ (s : k < j). omega (arith, label_falls k j lj (inr (sym q, s))))
      (λ (s : j ≤ k). ⊎_elim (λ (z : j ≡ k). n (sym z))
      (λ (z : j < k). omega (arith, label_falls j k lk (inr (q, z)))) (eq-or-lt_of_le s))
      (lt_or_le k j))
      (λ (q : rest j < rest k). omega (arith, label_falls j k lk (inl q)))
      (eq-or-lt_of_le l))
      (lt_or_le (rest k) (rest j))))
      (eq_or_ne k j)

-- ---- a bid reaches the bar from the least bid on

pub least_bid_lem : (bar amount bid : ℕ) → 1 ≤ amount → (least_bid bar amount ≤? bid) ≡ (bar ≤? bid * amount)
unfolding least_bid
least_bid_lem bar amount bid some =
    let (there, back) = div-lt_iff_lt-mul {k = amount} {x = bar + (amount - 1)} {y = bid + 1} some in
    let product : (bid + 1) * amount ≡ bid * amount + amount = omega arith in
    same_test _ _
    (λ e. is_le _ _ (omega (arith, there (omega (arith, le_yes _ _ e)))))
    (λ e.
    let l : (bar + (amount - 1)) / amount < bid + 1 = back (omega (arith, le_yes _ _ e)) in
    is_le _ _ (omega arith))

-- ---- two stations: x and y are bid less quotient, s and u the rests

-- the better by total less price has the greater of x and y, or at an equal one the smaller rest
better_first : (amount x y s u : ℕ) → u < amount → y * amount + s ≤ x * amount + u → y ≤ x
better_first amount x y s u lu h = ⊎_elim
    (λ (l : x < y). absurd (omega (arith, mul-le-mul_right amount l)))
    (λ l. l)
    (lt_or_le x y)

-- ---- keys

module _ (L : PriceList) (amount : ℕ) (P : Priced L amount) (row : List ℕ) where
  abbrev m : ℕ
  m = length L.prices

  abbrev price : ℕ → ℕ
  price j = get_or L.prices j 0

  abbrev reaches : ℕ → Bool
  reaches j = get_or L.bars j 0 ≤? get_or row j 0 * amount

  abbrev value : ℕ → ℕ
  value j = get_or row j 0 * amount - price j

  -- bid less quotient
  abbrev lead : ℕ → ℕ
  lead j = get_or row j 0 - price j / amount

  -- where the bar is reached
  value_is : (j : ℕ) → j < m → reaches j ≡ true → value j + price j % amount ≡ lead j * amount
  value_is j lj e =
      let parts = div-add-mod' (price j) amount in
      let covered : price j ≤ get_or row j 0 * amount = omega (arith, P.below j lj, le_yes _ _ e) in
      let least : price j / amount ≤ get_or row j 0 = ⊎_elim
      (λ (l : get_or row j 0 < price j / amount). absurd (omega (arith, mul-le-mul_right amount l)))
      (λ l. l)
      (lt_or_le (get_or row j 0) (price j / amount)) in
      let whole : get_or row j 0 * amount ≡ lead j * amount + price j / amount * amount =
      ap (λ x. x * amount) (let s : get_or row j 0 ≡ lead j + price j / amount = omega arith in s)
      ∙ add-mul (lead j) (price j / amount) amount in
      omega arith

  key_reached : (j : ℕ) → reaches j ≡ true → key L amount row j ≡ 64 * lead j + label L.prices amount j
  unfolding key
  key_reached j e = only_yes _ _ (least_bid_lem (get_or L.bars j 0) amount (get_or row j 0) P.amount_least ∙ e)

  key_missed : (j : ℕ) → reaches j ≡ false → key L amount row j ≡ 0
  unfolding key
  key_missed j e = only_no _ _ (least_bid_lem (get_or L.bars j 0) amount (get_or row j 0) P.amount_least ∙ e)

  -- the better station has the greater key
  key_rises :
      (k j : ℕ) → k < m → j < m → reaches k ≡ true → reaches j ≡ true → value k ≤ value j
      → (value k ≡ value j → j ≤ k) → key L amount row k ≤ key L amount row j
  key_rises k j lk lj ek ej v tie =
      let at_k = value_is k lk ek in
      let at_j = value_is j lj ej in
      let lead_le = better_first amount (lead j) (lead k) (price j % amount) (price k % amount)
      (mod-lt (price k) P.amount_least) (omega arith) in
      let key_k = key_reached k ek in
      let key_j = key_reached j ej in
      ⊎_elim
      (λ (e : lead k ≡ lead j).
      let same : lead k * amount ≡ lead j * amount = ap (λ x. x * amount) e in
      ⊎_elim
      (λ (s : price j % amount ≡ price k % amount). ⊎_elim
      (λ (q : j ≡ k). rw q (le_refl _))
      (λ (q : j < k). omega (arith, label_falls L.prices amount j k lk (inr (s, q))))
      (eq-or-lt_of_le (tie (let z : value k ≡ value j = omega arith in z))))
      (λ (s : price j % amount < price k % amount). omega (arith, label_falls L.prices amount j k lk (inl s)))
      (eq-or-lt_of_le (let z : price j % amount ≤ price k % amount = omega arith in z)))
      (λ (l : lead k < lead j).
      omega (arith, label_most L.prices amount k, label_least L.prices amount j, P.few))
      (eq-or-lt_of_le lead_le)

  abbrev top : ℕ
  top = greatest m (key L amount row)

  -- its low six bits: 0 where the rule chooses none, else the label of the station that it chooses
  pub top_none : best m reaches value ≡ 0 → top % 64 ≡ 0
  top_none e =
      let none : top ≡ 0 = le_antisymm
      (greatest_le m _ 0 (λ j lj. omega (arith, key_missed j (best_none m reaches value e j lj)))) (omega arith) in
      omega arith

  pub top_some : (j : ℕ) → best m reaches value ≡ suc j → top % 64 ≡ label L.prices amount j
  top_some j e =
      let (lj, ej) = best_holds m reaches value j e in
      let most : top ≤ key L amount row j = greatest_le m _ _ (λ k lk. ⊎_elim
      (λ (ek : reaches k ≡ true).
      let (x, q, s) = best_best m reaches value k lk ek in
      let x_is : x ≡ j = let z : suc x ≡ suc j = sym q ∙ e in omega arith in
      key_rises k j lk lj ek ej (rw x_is at s) (λ same. ⊎_elim
      (λ (l : k < j). absurd (let z = best_lowest m reaches value j k e l ek in omega arith))
      (λ l. l)
      (lt_or_le k j)))
      (λ (ek : reaches k ≡ false). omega (arith, key_missed k ek))
      (decide (reaches k))) in
      let is : top ≡ key L amount row j = le_antisymm most (le_greatest m (key L amount row) j lj) in
      omega (arith, key_reached j ej, label_most L.prices amount j, P.few)
