use Prim.Native.Nat.{◌≤◌}
use lib.ListN.{length}
use Rattle.model.specs.Counting.{greatest}
use Rattle.model.proofs.Loops.{Folded, Filling}
use Rattle.allocation.specs.Totals.{max_total, total_at}
use Rattle.allocation.proofs.totals.gather.Given as goal

abbrev pub invariant-loop-i : goal.invariant-loop-i
invariant-loop-i l =
    Filling (length l.amounts) (total_at l.bids l.amounts l.m l.j l.cut.0) l.initial.totals l.totals l.i
    × Folded greatest (length l.amounts) (total_at l.bids l.amounts l.m l.j l.cut.0) l.top.0 l.i × (l.top.0 ≤ max_total)
