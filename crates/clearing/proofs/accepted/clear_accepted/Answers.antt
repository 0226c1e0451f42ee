use Prim.Native.Nat.{ℕ, ◌+◌}
use lib.ListN.{length-replicate}
use Rattle.model.specs.Limits.{max_stations}
use Rattle.model.proofs.Loops.{zeros}
use Rattle.clearing.proofs.accepted.clear_accepted.Goals as goal

pub clear_with_bars-requires-clause-criticals_value : goal.clear_with_bars-requires-clause-criticals_value
clear_with_bars-requires-clause-criticals_value c =
    (zeros (max_stations + 1), length-replicate {A = ℕ} (max_stations + 1) 0)
