-- A row's greatest key leads to its gain by the price list.
use Prim.Native.Nat.{ℕ, zero, suc, ◌+◌, ◌*◌, ◌-◌, ◌/◌, ◌%◌, ◌≤◌, ◌<◌}
use mathlib.Core.Bool.{Bool, true, false}
use mathlib.Core.List.{List}
use mathlib.Core.Logic.{⊎_elim}
use mathlib.Core.Path.{◌≡◌, refl, sym, ap, ap₂, subst, ◌∙◌}
use native.Mathlib.Nat.{le_antisymm, mod-lt, mul-le-mul_right, div-add-mod'}
use native.Mathlib.Omega.{arith}
use lib.IntN.{ℤ, pos, sub_ℕ}
use lib.ListN.{get_or, length, set, take, drop, replicate, length-set, length-take, length-drop, length-replicate}
use lib.Seq.{get_or-set_same, get_or-set_other, get_or-take, get_or-drop, ext_get_or}
use borrow.Author.Count.{below_none, below_more}
use Rattle.model.specs.Limits.{max_price}
use Rattle.model.specs.Counting.{◌≤?◌, only, greatest, count, list}
use Rattle.model.specs.market.Mechanism.{at, best}
use Rattle.model.specs.market.Menus.{PriceList, station_from, charge_from, gain_from, row_in, gains_from}
use Rattle.model.proofs.Tests.{decide, only_yes, only_no, only_le, le_yes, le_no, is_le, not_le, lt_or_le}
use Rattle.model.proofs.Counting.{count_cong, greatest_cong, get_d_list}
use Rattle.model.proofs.Loops.{long, element, relist}
use Rattle.model.proofs.Singles.{singles_long, singles_at}
use Rattle.model.proofs.market.Choice.{best_holds}
use Rattle.menu.specs.Keys.{rest_before, goes_before, label, least_bid, key, label_by, least_within, lift, max_lift}
use Rattle.menu.specs.Keys.{plain_key, key_from, Priced, gain_at, Labelled, Prepared}
use Rattle.menu.specs.Holds.{Holds, HoldsRows, Rowed, row_key, top_key, row_gains}
use Rattle.menu.proofs.BestKey.{label_most, label_least, label_single, least_bid_lem, top_none, top_some}

-- ---- the labels by the rests are those by the prices

module _ (prices : List ℕ) (amount : ℕ) {rests : List ℕ}
    (e : rests ≡ list (length prices) (λ j. get_or prices j 0 % amount)) where
  label_by_lem : (j : ℕ) → j < length prices → label_by rests j ≡ label prices amount j
  unfolding label_by label goes_before
  label_by_lem j lj =
      ap (λ n. count n (λ k. rest_before (get_or rests j 0) (get_or rests k 0) j k) + 1) (long _ _ e)
      ∙ ap (λ x. x + 1) (count_cong (length prices) _ _
      (λ k lk. ap₂ (λ x y. rest_before x y j k) (element _ _ e j lj) (element _ _ e k lk)))

  pub labels_by :
      {labels : List ℕ} → labels ≡ list (length rests) (label_by rests)
      → labels ≡ list (length prices) (label prices amount)
  labels_by h = relist _ _ _ _ h (long _ _ e) label_by_lem

-- ---- a station's key, as the code has it

module _ (L : PriceList) (amount : ℕ) (P : Priced L amount) (j : ℕ) (lj : j < length L.prices) where
  abbrev bar : ℕ
  bar = get_or L.bars j 0

  abbrev price : ℕ
  price = get_or L.prices j 0

  reached : (bid : ℕ) → least_bid bar amount ≤ bid → bar ≤ bid * amount
  reached bid h = le_yes _ _ (sym (least_bid_lem bar amount bid P.amount_least) ∙ is_le _ _ h)

  quotient_most : (bid : ℕ) → bar ≤ bid * amount → price / amount ≤ bid
  quotient_most bid h = ⊎_elim
      (λ (l : bid < price / amount).
      absurd (omega (arith, mul-le-mul_right amount l, div-add-mod' price amount, P.below j lj)))
      (λ l. l)
      (lt_or_le bid (price / amount))

  within_reach : least_within bar amount ≤ max_price → bar ≤ max_price * amount
  unfolding least_within
  within_reach h = reached max_price (omega arith)

  pub quotient_low : least_within bar amount ≤ max_price → price / amount ≤ max_price
  quotient_low h = quotient_most max_price (within_reach h)

  abbrev lifted : ℕ
  lifted = lift (least_within bar amount) price amount (label L.prices amount j)

  lift_reached :
      least_within bar amount ≤ max_price
      → lifted ≡ 64 * (max_price - price / amount) + label L.prices amount j
  unfolding lift
  lift_reached h = only_yes _ _ (is_le _ _ h)

  lift_missed : max_price < least_within bar amount → lifted ≡ 0
  unfolding lift
  lift_missed h = only_no _ _ (not_le _ _ h)

  label_low : label L.prices amount j ≤ 63
  label_low = omega (arith, label_most L.prices amount j, P.few)

  lift_low : lifted ≤ max_lift
  unfolding lift
  lift_low = only_le _ _ _ (λ _. omega (arith, label_low))

  coded_key :
      (bid : ℕ) → bid ≤ max_price
      → key_from (least_within bar amount) lifted bid
      ≡ only (least_bid bar amount ≤? bid) (64 * (bid - price / amount) + label L.prices amount j)
  unfolding key_from plain_key least_within
  coded_key bid low = ⊎_elim
      (λ (e : (least_bid bar amount ≤? bid) ≡ true).
      let l = le_yes _ _ e in
      only_yes _ _ (is_le _ _ (omega arith))
      ∙ omega (arith, lift_reached (omega arith), quotient_most bid (reached bid l)) ∙ sym (only_yes _ _ e))
      (λ (e : (least_bid bar amount ≤? bid) ≡ false).
      only_no _ _ (not_le _ _ (omega (arith, le_no _ _ e))) ∙ sym (only_no _ _ e))
      (decide (least_bid bar amount ≤? bid))

  -- a bid above the price's quotient comes to the bar, where that is in reach
  above_quotient : (bid : ℕ) → bar ≤ max_price * amount → price / amount < bid → least_bid bar amount ≤ bid
  above_quotient bid h l =
      let more : bar ≤ bid * amount = omega (
        arith,
        P.near j lj h,
        mul-le-mul_right amount l,
        div-add-mod' price amount,
        mod-lt price P.amount_least,
      ) in
      le_yes _ _ (least_bid_lem bar amount bid P.amount_least ∙ is_le _ _ more)

  plain_reached : (bid : ℕ) → bid ≤ max_price → 64 ≤ plain_key lifted bid → least_within bar amount ≤ bid
  unfolding plain_key
  plain_reached bid low h = ⊎_elim
      (λ (l : max_price < least_within bar amount). absurd (omega (arith, lift_missed l)))
      (λ (l : least_within bar amount ≤ max_price).
      let above : price / amount < bid = omega (arith, lift_reached l, label_low) in
      let least = above_quotient bid (within_reach l) above in
      unfold least_within in omega (arith, least))
      (lt_or_le max_price (least_within bar amount))

-- ---- the table of gains by labels

pub labelled_none :
    {worths prices : List ℕ} {amount : ℕ} {table : List ℤ} → table ≡ replicate 64 (pos 0)
    → Labelled worths prices amount 0 table
labelled_none {worths} {prices} {amount} {table} e = record {
  long = ap length e ∙ length-replicate {A = ℤ} 64 (pos 0);
  nowhere = ap (λ l. get_or l 0 (pos 0)) e;
  there = below_none (λ j. get_or table (label prices amount j) (pos 0) ≡ gain_at worths prices amount j);
}

pub labelled_turn :
    {worths prices : List ℕ} {amount k : ℕ} {table : List ℤ} {x : ℕ} {v : ℤ} → Labelled worths prices amount k table
    → k < length prices → length prices ≤ 62 → x ≡ label prices amount k → v ≡ gain_at worths prices amount k
    → Labelled worths prices amount (k + 1) (set table x v)
labelled_turn {worths} {prices} {amount} {k} {table} {x} {v} s lk few e h = record {
  long = length-set table x v ∙ s.long;
  nowhere = get_or-set_other table x 0 v (pos 0) (λ z. omega (arith, label_least prices amount k)) ∙ s.nowhere;
  there = below_more (λ j. get_or (set table x v) (label prices amount j) (pos 0) ≡ gain_at worths prices amount j) k
      (λ j lj. get_or-set_other table x (label prices amount j) v (pos 0)
      (λ z. let same : j ≡ k = label_single prices amount j k (omega arith) lk (z ∙ e) in omega arith)
      ∙ s.there j lj)
      (ap (λ y. get_or (set table x v) y (pos 0)) (sym e)
      ∙ get_or-set_same table x v (pos 0) (omega (arith, s.long, label_most prices amount k)) ∙ h);
}

pub labelled_end :
    {worths prices : List ℕ} {amount k : ℕ} {table : List ℤ} → Labelled worths prices amount k table
    → k ≤ length prices → length prices ≤ k → Labelled worths prices amount (length prices) table
labelled_end {worths} {prices} {amount} {k} {table} s below end =
    subst (λ k. Labelled worths prices amount k table) (le_antisymm below end) s

-- ---- rows

module _ (L : PriceList) (amount : ℕ) (P : Priced L amount) (worths leasts lifts : List ℕ) (table : List ℤ)
    (p : Prepared L amount worths leasts lifts table) (rows : List ℕ) (k : ℕ)
    (whole : length rows ≡ k * length L.prices)
    (low : (q : ℕ) → q < length rows → get_or rows q 0 ≤ max_price) where
  abbrev m : ℕ
  m = length L.prices

  leasts_long : length leasts ≡ m
  leasts_long = long m _ p.leasts_are

  least_at : (j : ℕ) → j < m → get_or leasts j 0 ≡ least_within (get_or L.bars j 0) amount
  least_at j lj = element m _ p.leasts_are j lj

  lift_at : (j : ℕ) (lj : j < m) → get_or lifts j 0 ≡ lifted L amount P j lj
  lift_at j lj = element m _ p.lifts_are j lj

  abbrev h : Holds
  h = record { leasts = leasts; lifts = lifts }

  pub holds : HoldsRows h
  unfolding least_within
  holds = record {
    lifts_long = long m _ p.lifts_are ∙ sym leasts_long;
    leasts_low = λ j lj. omega (arith, least_at j (omega (arith, leasts_long)));
    lifts_low = λ j lj.
        let lj' : j < m = omega (arith, leasts_long) in rw (lift_at j lj') (lift_low L amount P j lj');
    reached = λ j bid lj h l.
        let lj' : j < m = omega (arith, leasts_long) in
        rw (least_at j lj') (plain_reached L amount P j lj' bid h (rw (lift_at j lj') at l));
  }

  pub rowed : Rowed rows h table k
  rowed = record {
    whole = whole ∙ ap (λ x. k * x) (sym leasts_long);
    table_long = p.labelled.long;
    bids_low = low;
  }

  module _ (r : ℕ) (lr : r < k) where
    abbrev row : List ℕ
    row = row_in m rows r

    bid_at_lem : (j : ℕ) → j < m → get_or row j 0 ≡ get_or rows (r * m + j) 0
    unfolding row_in
    bid_at_lem j lj = get_d_list m _ j lj

    bid_low : (j : ℕ) → j < m → get_or rows (r * m + j) 0 ≤ max_price
    bid_low j lj = low _ (omega (arith, whole, mul-le-mul_right m lr))

    key_at :
        (j : ℕ) → j < m
        → key_from (get_or leasts j 0) (get_or lifts j 0) (get_or rows (r * m + j) 0) ≡ key L amount row j
    unfolding key
    key_at j lj =
        ap₂ (λ x y. key_from x y (get_or rows (r * m + j) 0)) (least_at j lj) (lift_at j lj)
        ∙ coded_key L amount P j lj (get_or rows (r * m + j) 0) (bid_low j lj)
        ∙ ap (λ b. only (least_bid (get_or L.bars j 0) amount ≤? b)
        (64 * (b - get_or L.prices j 0 / amount) + label L.prices amount j)) (sym (bid_at_lem j lj))

    top_is : top_key rows h r ≡ greatest m (key L amount row)
    unfolding top_key
    top_is = rw leasts_long (greatest_cong m _ _ key_at)

    abbrev reaches : ℕ → Bool
    reaches j = get_or L.bars j 0 ≤? get_or row j 0 * amount

    abbrev value : ℕ → ℕ
    value j = get_or row j 0 * amount - get_or L.prices j 0

    gain_there : get_or table (top_key rows h r % 64) (pos 0) ≡ gain_from L amount worths row
    unfolding gain_from charge_from station_from at gain_at
    gain_there = rw P.bars_long (ap (λ x. get_or table (x % 64) (pos 0)) top_is ∙ go (best m reaches value) refl)
      where
        go :
            (s : ℕ) → best m reaches value ≡ s
            → get_or table (greatest m (key L amount row) % 64) (pos 0)
            ≡ sub_ℕ (at (λ j. get_or worths j 0 * amount) s) (at (λ j. get_or L.prices j 0) s)
        go zero e = ap (λ x. get_or table x (pos 0)) (top_none L amount P row e) ∙ p.labelled.nowhere
        go (suc j) e =
            ap (λ x. get_or table x (pos 0)) (top_some L amount P row j e)
            ∙ p.labelled.there j (best_holds m reaches value j e).0

  pub gains_there : row_gains rows h table k ≡ gains_from L amount worths m rows k
  unfolding row_gains gains_from
  gains_there =
      ext_get_or (pos 0) _ _ (singles_long _ k ∙ sym (singles_long _ k)) (λ r lr.
      let lr' : r < k = omega (arith, singles_long (λ r. get_or table (top_key rows h r % 64) (pos 0)) k) in
      singles_at _ k r (pos 0) lr' ∙ gain_there r lr' ∙ sym (singles_at _ k r (pos 0) lr'))

-- ---- a row of rows, and its greatest key

pub row_top :
    (rows : List ℕ) (h : Holds) (r size : ℕ) {x : ℕ} → size ≡ length h.leasts
    → r * length h.leasts + length h.leasts ≤ length rows
    → let row = take size (drop (r * length h.leasts) rows) in x ≡ greatest (length row) (row_key h row)
    → x ≡ top_key rows h r
unfolding row_key top_key
row_top rows h r size e inside g =
    let m : ℕ = length h.leasts in
    let rest = drop (r * m) rows in
    let row_long : length (take size rest) ≡ m =
    omega (arith, length-take size rest, length-drop (r * m) rows) in
    g ∙ ap (λ n. greatest n (λ j. key_from (get_or h.leasts j 0) (get_or h.lifts j 0) (get_or (take size rest) j 0)))
    row_long
    ∙ greatest_cong m _ _ (λ j lj. ap (key_from (get_or h.leasts j 0) (get_or h.lifts j 0))
    (get_or-take size rest j 0 (omega arith) ∙ get_or-drop (r * m) rows j 0))
