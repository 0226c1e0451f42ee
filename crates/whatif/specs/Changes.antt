-- The bytes of the table of changes.
use Rattle.std.specs.Prelude.{ℕ}
use Rattle.whatif.specs.declared.changes.SeatChange.{SeatChange}
use Rattle.whatif.specs.declared.changes.SeatChange.TheVariants.{Neither, Seated, Unseated}

abbrev pub number_of : SeatChange → ℕ
number_of Neither = 0
number_of Seated = 1
number_of Unseated = 2
