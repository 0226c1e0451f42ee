-- Laws of places: a bid against its station's bar, and the bars that come of an assignment.
use Prim.Native.Nat.{ℕ, ◌+◌, ◌*◌, ◌≤◌, ◌<◌}
use mathlib.Core.Bool.{Bool, true, false, not, ◌&&◌}
use mathlib.Core.List.{List}
use mathlib.Core.Logic.{⊎_elim}
use mathlib.Core.Path.{◌≡◌, refl, sym, ap, ap₂, ◌∙◌}
use native.Mathlib.Nat.{mul-le-mul_right}
use native.Mathlib.Numerals.{add-one}
use native.Mathlib.Omega.{arith}
use mir.Val.{bool_byte}
use lib.ListN.{get_or, length}
use borrow.Rule.Slice.PartMut.{put_mid}
use Rattle.std.proofs.lemmas.Slice.{put_mid-paste}
use Rattle.model.specs.Counting.{◌<?◌, ◌and◌, only, list, joined}
use Rattle.model.specs.market.Market.{Tables, bid_at, queue, provisional}
use Rattle.model.specs.market.Marking.{place_table}
use Rattle.model.specs.claims.Meaning.{WithinLimits}
use Rattle.model.specs.clauses.Rows.{row_of}
use Rattle.model.proofs.Tests.{both, first, second, and_no, neither, is_lt, not_lt, is_le, not_eq, lt_yes, le_yes}
use Rattle.model.proofs.Tests.{decide, lt_or_le}
use Rattle.model.proofs.Counting.{length_list}
use Rattle.model.proofs.Tables.{RowsWritten, rows_turn}
use Rattle.model.proofs.Loops.{long, element, in_table}
use Rattle.model.proofs.market.Limits.{product}
use Rattle.model.proofs.market.Truthful.{candidate_held}
use Rattle.model.proofs.clauses.Rows.{row_long, row_shows}
use Rattle.allocation.specs.Offers.{won_by}
use Rattle.allocation.specs.Screens.{screened_at}
use Rattle.allocation.specs.Stages.{Bars}
use Rattle.allocation.specs.Totals.{max_total}
use Rattle.allocation.proofs.assignment.Assignment.{critical_at_lem, critical_low}
use Rattle.marking.specs.Places.{bar_by, bar_at, place_by, row_place, RowReady, Barred}

-- ---- a bid against a bar

-- the code's and is that of the tests
and_is : (a b : Bool) → (a && b) ≡ (a and b)
unfolding ◌and◌
and_is true b = refl
and_is false b = refl

pub both_are : {a b x y : Bool} → a ≡ x → b ≡ y → (a && b) ≡ (x and y)
both_are e f = and_is _ _ ∙ ap₂ ◌and◌ e f

and_true : (a : Bool) → (a and true) ≡ a
unfolding ◌and◌
and_true true = refl
and_true false = refl

and_false : (a : Bool) → (a and false) ≡ false
unfolding ◌and◌
and_false true = refl
and_false false = refl

byte_is : (b : Bool) → bool_byte b ≡ only b 1
unfolding only
byte_is true = refl
byte_is false = refl

-- what the code finds of a bid
pub place_is :
    (bid amount ticket c bar bound : ℕ) {total byte : ℕ} {wins below : Bool} → byte ≡ bool_byte (wins && not below)
    → total ≡ bid * amount → wins ≡ won_by total bar ticket bound → below ≡ (bid <? c)
    → byte ≡ place_by bid amount ticket c bar bound
unfolding place_by
place_is bid amount ticket c bar bound h e w b =
    h ∙ byte_is _ ∙ ap (λ h. only h 1) (both_are (w ∙ ap (λ x. won_by x bar ticket bound) e) (ap not b))

-- nobody wins past every total
none_past : (x k e : ℕ) → x ≤ max_total → won_by x (max_total + 1) k e ≡ false
unfolding won_by
none_past x k e l = neither (not_lt _ _ (omega arith)) (and_no _ _ (not_eq _ _ (λ q. omega arith)))

module _ (t : Tables) (c : ℕ) {criticals bounds bars : List ℕ} (w : WithinLimits t) (b : Bars t c criticals bounds)
    (e : bars ≡ list (length t.asks) (bar_at t.asks c criticals)) where
  bar_is : (j : ℕ) → j < length t.asks → get_or bars j 0 ≡ bar_by (get_or t.asks j 0) c (get_or criticals (j + 1) 0)
  unfolding bar_at
  bar_is j lj = element _ _ e j lj

  critical_here : (j : ℕ) → j < length t.asks → get_or criticals (j + 1) 0 ≤ max_total
  critical_here j lj = rw (add-one j, critical_at_lem t c w b.criticals_are j lj) (critical_low t c w j lj)

  bar_low : (j : ℕ) → j < length t.asks → get_or bars j 0 ≤ max_total + 1
  unfolding bar_by
  bar_low j lj = rw (bar_is j lj) (⊎_elim
      (λ (o : get_or t.asks j 0 < c). rw (is_lt _ _ o) (omega (arith, critical_here j lj)))
      (λ (o : c ≤ get_or t.asks j 0). rw (not_lt _ _ o) (omega arith))
      (lt_or_le (get_or t.asks j 0) c))

  bid_low : (i j : ℕ) → i < length t.amounts → j < length t.asks → bid_at t i j * get_or t.amounts i 0 ≤ max_total
  unfolding bid_at
  bid_low i j li lj =
      product _ _ (w.bid_most _
      (omega (arith, w.shape.bids_length, in_table (length t.amounts) (length t.asks) i j li lj)))
      (w.amount_most i li)

  -- whoever holds a place is a candidate
  held_candidate :
      (i j : ℕ) → provisional (queue (screened_at t c) j) i ≡ true
      → (get_or t.asks j 0 < c) × (c ≤ bid_at t i j)
  unfolding screened_at
  held_candidate i j h =
      let k = candidate_held (screened_at t c) i j h in
      (lt_yes _ _ (first _ _ k), le_yes _ _ (second _ _ k))

  not_held :
      (i j : ℕ) → ((get_or t.asks j 0 < c) × (c ≤ bid_at t i j) → ⊥)
      → provisional (queue (screened_at t c) j) i ≡ false
  not_held i j n = ⊎_elim
      (λ (h : provisional (queue (screened_at t c) j) i ≡ true). absurd (n (held_candidate i j h)))
      (λ h. h)
      (decide (provisional (queue (screened_at t c) j) i))

  open_place :
      (i j : ℕ) → i < length t.amounts → j < length t.asks → get_or t.asks j 0 < c → c ≤ bid_at t i j
      → won_by (bid_at t i j * get_or t.amounts i 0) (get_or bars j 0) (get_or t.tickets i 0) (get_or bounds (j + 1) 0)
      ≡ provisional (queue (screened_at t c) j) i
  unfolding bar_by screened_at
  open_place i j li lj o h =
      rw (bar_is j lj, is_lt _ _ o, add-one j, critical_at_lem t c w b.criticals_are j lj)
      (b.bounded.wins i j li lj (both (is_lt _ _ o) (is_le _ _ h)))

  closed_place :
      (i j : ℕ) → i < length t.amounts → j < length t.asks → c ≤ get_or t.asks j 0
      → won_by (bid_at t i j * get_or t.amounts i 0) (get_or bars j 0) (get_or t.tickets i 0) (get_or bounds (j + 1) 0)
      ≡ false
  unfolding bar_by
  closed_place i j li lj o = rw (bar_is j lj, not_lt _ _ o) (none_past _ _ _ (bid_low i j li lj))

  -- whether the bid wins by the bar
  abbrev won : (i j : ℕ) → Bool
  won i j =
      won_by (bid_at t i j * get_or t.amounts i 0) (get_or bars j 0) (get_or t.tickets i 0) (get_or bounds (j + 1) 0)

  held_by_bar :
      (i j : ℕ) → i < length t.amounts → j < length t.asks
      → (won i j and not (bid_at t i j <? c)) ≡ provisional (queue (screened_at t c) j) i
  held_by_bar i j li lj = ⊎_elim
      (λ (o : get_or t.asks j 0 < c). ⊎_elim
      (λ (l : bid_at t i j < c).
      ap (λ x. won i j and not x) (is_lt _ _ l) ∙ and_false (won i j) ∙ sym (not_held i j (λ (_, h). omega arith)))
      (λ (l : c ≤ bid_at t i j).
      ap₂ (λ x y. x and not y) (open_place i j li lj o l) (not_lt _ _ l) ∙ and_true _)
      (lt_or_le (bid_at t i j) c))
      (λ (o : c ≤ get_or t.asks j 0).
      and_no _ _ (closed_place i j li lj o) ∙ sym (not_held i j (λ (q, _). omega arith)))
      (lt_or_le (get_or t.asks j 0) c)

  pub barred : Barred t c bars bounds
  unfolding place_by
  barred = record {
    bars_long = long _ _ e;
    bars_low = bar_low;
    bounds_long = b.bounded.bounds_long;
    places_are = λ i j li lj. ap (λ h. only h 1) (held_by_bar i j li lj);
  }

-- ---- a row of places, from bars

module _ (t : Tables) (c : ℕ) {bars bounds row : List ℕ} (w : WithinLimits t) (b : Barred t c bars bounds)
    (i : ℕ) (li : i < length t.amounts) (e : row ≡ row_of t.bids (length t.asks) (i + 1)) where
  whole : (i + 1) * length t.asks ≤ length t.bids
  whole = omega (arith, w.shape.bids_length, mul-le-mul_right (length t.asks) li)

  pub row_is_long : length row ≡ length t.asks
  row_is_long = rw e (row_long t.bids (length t.asks) i whole)

  shows_bid : (j : ℕ) → j < length t.asks → get_or row j 0 ≡ bid_at t i j
  unfolding bid_at
  shows_bid j l = rw e (row_shows t.bids (length t.asks) i j whole l)

  pub row_place_is :
      (j : ℕ) → j < length t.asks
      → row_place row (get_or t.amounts i 0) (get_or t.tickets i 0) c bars bounds j
      ≡ only (provisional (queue (screened_at t c) j) i) 1
  unfolding row_place
  row_place_is j lj = rw (shows_bid j lj) (b.places_are i j li lj)

  pub row_ready :
      {places : List ℕ} → length places ≡ length t.asks → RowReady row (get_or t.amounts i 0) bars bounds places
  unfolding bid_at
  row_ready room = record {
    few = omega (arith, row_is_long, w.shape.stations_most);
    bids_low = λ j l.
        let lj : j < length t.asks = omega (arith, row_is_long) in
        rw (shows_bid j lj) (w.bid_most _ (omega (
          arith,
          w.shape.bids_length,
          in_table (length t.amounts) (length t.asks) i j li lj,
        )));
    amount_low = w.amount_most i li;
    bars_long = b.bars_long ∙ sym row_is_long;
    bars_low = λ j l. b.bars_low j (omega (arith, row_is_long));
    bounds_long = b.bounds_long;
    places_long = room ∙ sym row_is_long;
  }

-- the place of guest i and station j at a cut
abbrev pub place_at : (t : Tables) (c i j : ℕ) → ℕ
place_at t c i j = only (provisional (queue (screened_at t c) j) i) 1

pub table_is :
    (t : Tables) (c : ℕ) → joined (length t.amounts) (λ i. list (length t.asks) (place_at t c i))
    ≡ place_table (screened_at t c)
unfolding place_table screened_at
table_is t c = refl

-- a row that is written is the table's next
pub row_put :
    (t : Tables) (c : ℕ) {i k : ℕ} {f : ℕ → ℕ} {places₀ places row : List ℕ} → let n = length t.amounts in
    let m = length t.asks in RowsWritten n m (place_at t c) places₀ places i → i < n → k ≡ m
    → ((j : ℕ) → j < m → f j ≡ place_at t c i j) → row ≡ list m f
    → RowsWritten n m (place_at t c) places₀ (put_mid (i * m) k places row) (i + 1)
row_put t c {i} {k} {f} s l wide h e =
    let m = length t.asks in
    rows_turn s l h (put_mid-paste (i * m) k _ _ (list m f) m e (sym wide) (sym (length_list m f)))
