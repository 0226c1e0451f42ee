-- What a pass over rows promises. Nothing that `sheet::read` promises depends on this file.
use Rattle.std.specs.Prelude.{ℕ, List, Result, Ok, Err, ◌≡◌}
use Rattle.model.specs.Numbers.{number}
use Rattle.model.specs.Verdicts.{Answer, Row, accepted, refused, first_fault, giving}
use Rattle.model.specs.declared.refusal.Refusal.{Refusal}
use Rattle.sheet.specs.declared.fields.Cursor.{Cursor}

-- the place after sound rows, or their fault
unfoldable pub answer_at : Result Cursor Refusal → Answer ℕ
answer_at (Ok to) = accepted to.at
answer_at (Err r) = refused (number r)

-- the place is in the same sheet
unfoldable pub stays : Cursor → Result Cursor Refusal → Type 0
stays from (Ok to) = to.sheet.now ≡ from.sheet.now
stays from (Err _) = Unit {0}

-- rows with these faults have been gone over, which end at q where they have none
pub record Passed (from : Cursor) (faults : List Row) (r : Result Cursor Refusal) (q : ℕ) : Type 0 where
  pub answer : answer_at r ≡ giving (first_fault faults) q
  pub sheet : stays from r
