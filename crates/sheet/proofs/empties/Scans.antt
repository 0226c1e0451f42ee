-- The scan of a row's bids.
use Prim.Native.Nat.{ℕ, ◌+◌, ◌*◌}
use mathlib.Core.Bool.{Bool, false, ◌||◌}
use mathlib.Core.Path.{◌≡◌, ap, ap₂, ◌∙◌}
use native.Mathlib.Omega.{arith}
use Rattle.model.specs.Counting.{◌=?◌}
use Rattle.model.specs.sheet.Rows.{is_empty}
use Rattle.model.proofs.Counting.{some_cong, some_joined}
use Rattle.model.proofs.Loops.{scan_none, scan_turn, either_is}
use Rattle.sheet.specs.Taken.{Taken, Scanned}
use Rattle.sheet.specs.declared.fields.Cursor.{Cursor}
use Rattle.sheet.proofs.fields.Moves.{moved_none, moved_then, moved_by, taken_after}

pub scanned_none : (r : Cursor) → Scanned r 0 false r
scanned_none r = record { found = scan_none _; moved = moved_none r }

module _ {from to : Cursor} {k : ℕ} {empty : Bool} (s : Scanned from k empty to) where
  -- n more
  pub scanned_more :
      {to' : Cursor} (n k' : ℕ) {b : Bool} → Scanned to n b to' → k + n ≡ k' → Scanned from k' (empty || b) to'
  scanned_more n k' t e = rw (← e) (record {
    found = either_is s.found (t.found
        ∙ some_cong n _ _ (λ i _. ap₂ is_empty s.moved.sheet (omega (arith, s.moved.place))))
        ∙ some_joined (λ i. is_empty from.sheet.now (from.at + 4 * i)) k k n (omega arith) (omega arith);
    moved = moved_by (moved_then s.moved t.moved) (omega arith);
  })

  -- the next one
  pub scanned_next : {to' : Cursor} {x : ℕ} → Taken to 4 x to' → Scanned from (k + 1) (empty || (x =? 0)) to'
  scanned_next t = record {
    found = scan_turn (λ i. is_empty from.sheet.now (from.at + 4 * i)) k _ _ s.found
        (ap (λ x. x =? 0) (taken_after s.moved t));
    moved = moved_by (moved_then s.moved t.moved) (omega arith);
  }

  -- all
  pub scanned_all : {n : ℕ} → k ≡ n → Scanned from n empty to
  scanned_all e = rw (← e) s
