-- The pass over rows: a row's map and bids, as the cursor takes them, and what it comes to.
use Prim.Native.Nat.{ℕ, ◌+◌, ◌*◌, ◌/◌, ◌^◌, ◌≤◌, ◌<◌}
use mathlib.Core.Bool.{Bool, true, false}
use mathlib.Core.List.{List}
use mathlib.Core.Path.{◌≡◌, refl, sym, ap, ◌∙◌}
use native.Mathlib.Omega.{arith}
use lib.ListN.{length}
use Rattle.std.specs.Prelude.{Result, Ok, Err}
use Rattle.model.specs.Limits.{max_stations}
use Rattle.model.specs.Counting.{count, some}
use Rattle.model.specs.Numbers.{number}
use Rattle.model.specs.Verdicts.{Row, accepted, refused, first_fault}
use Rattle.model.specs.declared.refusal.Refusal.{Refusal}
use Rattle.model.specs.declared.refusal.Refusal.TheVariants.{SheetEnds, StrayBit, EmptyBid}
use Rattle.model.specs.sheet.Fields.{has_bit, map_width}
use Rattle.model.specs.sheet.Rows.{map_at, next_at, row_at, row_faults, rows_faults, is_empty}
use Rattle.model.proofs.Verdicts.{giving_accepted, giving_refused, gave_accepted, gave_refused}
use Rattle.model.proofs.sheet.Rows.{MapTaken, bids_at_lem, stray, empty_bid, bids_end, row_good, next_is}
use Rattle.model.proofs.sheet.Rows.{rows_none, rows_to, rows_more, rows_fault, rows_all}
use Rattle.sheet.specs.Passes.{answer_at, stays, Passed}
use Rattle.sheet.specs.Taken.{Moved, Taken, Scanned, Whole}
use Rattle.sheet.specs.declared.fields.Cursor.{Cursor}
use Rattle.sheet.proofs.fields.Moves.{taken_after}

module _ {from : Cursor} {faults : List Row} {q : ℕ} where
  pub passed_fault :
      {x : Refusal} → first_fault faults ≡ refused (number x) → Passed from faults (Err x) q
  unfolding answer_at stays
  passed_fault e = record { answer = sym (giving_refused _ _ e); sheet = tt }

  pub passed_on :
      {to : Cursor} → first_fault faults ≡ accepted tt → to.at ≡ q → to.sheet.now ≡ from.sheet.now
      → Passed from faults (Ok to) q
  unfolding answer_at stays
  passed_on e p s = record { answer = ap accepted p ∙ sym (giving_accepted _ e); sheet = s }

  pub told_on :
      {to : Cursor} → Passed from faults (Ok to) q
      → (first_fault faults ≡ accepted tt) × (to.at ≡ q) × (to.sheet.now ≡ from.sheet.now)
  unfolding answer_at stays
  told_on {to} p = let (a, b) = gave_accepted (first_fault faults) q to.at (sym p.answer) in (a, sym b, p.sheet)

  pub told_fault : {x : Refusal} → Passed from faults (Err x) q → first_fault faults ≡ refused (number x)
  unfolding answer_at
  told_fault p = gave_refused (first_fault faults) q _ (sym p.answer)

-- the row of `from`: its map is taken, and its bids start at b
module _ {from a b : Cursor} (m : ℕ) {x : ℕ} (h : Moved from 6 a) (t : Taken a (map_width m) x b) where
  pub same_sheet : b.sheet.now ≡ from.sheet.now
  same_sheet = t.moved.sheet ∙ h.sheet

  pub map_taken : a.at + map_width m ≤ length a.sheet.now → MapTaken from.sheet.now m from.at x b.at
  unfolding map_at
  map_taken w = record {
    within = omega (arith, bids_at_lem m from.at, h.place, ap length h.sheet);
    map = taken_after h t;
    to = omega (arith, bids_at_lem m from.at, h.place, t.moved.place);
  }

  module _ (within : a.at + map_width m ≤ length a.sheet.now) where
    abbrev Row_passed : Result Cursor Refusal → Type 0
    Row_passed r = Passed from (row_faults from.sheet.now m from.at) r (next_at from.sheet.now m from.at)

    pub row_stray : 0 < x / 2 ^ m → Row_passed (Err StrayBit)
    row_stray g = passed_fault (stray (map_taken within) g)

    module _ (few : m ≤ max_stations) (clear : x / 2 ^ m ≤ 0) {n k : ℕ} {empty : Bool} {to : Cursor}
        (c : n ≡ count 64 (has_bit x)) (w : Whole b n k) (s : Scanned b k empty to) where
      same : to.sheet.now ≡ from.sheet.now
      same = s.moved.sheet ∙ same_sheet

      bids_in : b.at + 4 * k ≤ length from.sheet.now
      bids_in = omega (arith, w.within, ap length same_sheet)

      found : empty ≡ some k (λ i. is_empty from.sheet.now (b.at + 4 * i))
      found = rw (← same_sheet) s.found

      narrow : m ≤ 64
      narrow = omega arith

      pub row_empty : empty ≡ true → Row_passed (Err EmptyBid)
      row_empty e =
          passed_fault (empty_bid (map_taken within) narrow clear k bids_in (omega (arith, w.few)) (sym found ∙ e))

      pub row_ends : k < n → empty ≡ false → Row_passed (Err SheetEnds)
      row_ends l e =
          passed_fault (bids_end (map_taken within) narrow clear k bids_in (omega arith) (sym found ∙ e)
          (omega (arith, w.ends l, ap length same_sheet)))

      pub row_passed : n ≤ k → empty ≡ false → Row_passed (Ok to)
      row_passed l e =
          passed_on (row_good (map_taken within) narrow clear k bids_in (omega (arith, w.few)) (sym found ∙ e))
          (omega (arith, s.moved.place, w.few, next_is (map_taken within) narrow clear)) same

-- the first i rows have no fault, and the cursor stands after them
pub record RowsPassed (from : Cursor) (m i : ℕ) (to : Cursor) : Type 0 where
  pub place : to.at ≡ row_at from.sheet.now m i
  pub sheet : to.sheet.now ≡ from.sheet.now
  pub good : first_fault (rows_faults from.sheet.now m i) ≡ accepted tt

pub rows_start : (r : Cursor) (m : ℕ) → r.at ≡ row_at r.sheet.now m 0 → RowsPassed r m 0 r
rows_start r m e = record { place = e; sheet = refl; good = rows_none _ m }

module _ {from a : Cursor} {m i : ℕ} (p : RowsPassed from m i a) where
  pub next_row :
      {b : Cursor} → Passed a (row_faults a.sheet.now m a.at) (Ok b) (next_at a.sheet.now m a.at)
      → RowsPassed from m (i + 1) b
  next_row t =
      let (e, q, s) = told_on t in
      record {
        place = rw p.sheet at q ∙ rows_to _ _ _ _ p.place;
        sheet = s ∙ p.sheet;
        good = rows_more _ _ _ _ p.place p.good (rw p.sheet at e);
      }

  pub row_fault :
      {n q : ℕ} {x : Refusal} → i < n
      → Passed a (row_faults a.sheet.now m a.at) (Err x) (next_at a.sheet.now m a.at)
      → Passed from (rows_faults from.sheet.now m n) (Err x) q
  row_fault l t = passed_fault (rows_fault _ _ _ _ _ l p.place p.good (rw p.sheet at (told_fault t)))

  pub rows_end :
      {n : ℕ} → i ≡ n → Passed from (rows_faults from.sheet.now m n) (Ok a) (row_at from.sheet.now m n)
  rows_end e = passed_on (rows_all _ _ _ _ e p.good) (p.place ∙ ap (row_at _ _) e) p.sheet
