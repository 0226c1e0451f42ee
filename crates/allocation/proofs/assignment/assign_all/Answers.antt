use Rattle.model.specs.Limits.{max_stations}
use Prim.Native.Nat.{ℕ, ◌+◌}
use lib.ListN.{length-replicate}
use Rattle.model.proofs.Loops.{zeros}
use Rattle.allocation.proofs.assignment.assign_all.Goals as goal

pub assign_with_bars-requires-clause-criticals_value :
    goal.assign_with_bars-requires-clause-criticals_value
assign_with_bars-requires-clause-criticals_value c =
    (zeros (max_stations + 1), length-replicate {A = ℕ} (max_stations + 1) 0)
