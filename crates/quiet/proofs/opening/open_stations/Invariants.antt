use Rattle.std.proofs.Common.{length}
use Rattle.quiet.proofs.opening.Opening.{OpenSoFar}
use Rattle.quiet.proofs.opening.open_stations.Given as goal

abbrev pub invariant-loop-j : goal.invariant-loop-j
invariant-loop-j l = OpenSoFar l.asks l.cut.0 (length l.initial.opened) l.opened l.k l.j
