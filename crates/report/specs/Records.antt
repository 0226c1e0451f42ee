-- The line of a guest's record. Nothing that `report::print_page` promises depends on this file.
use Rattle.std.specs.Prelude.{ℕ, List}
use Rattle.model.specs.Numbers.{station_of, charge_of, loss_of}
use Rattle.model.specs.text.ReasonsText.{outcome_line}
use Rattle.model.specs.declared.reason.GuestOutcome.{GuestOutcome}

unfoldable pub record_line : (guest : ℕ) → GuestOutcome → List ℕ
record_line guest o = outcome_line guest (station_of o.result) (charge_of o.result) (loss_of o.result)
