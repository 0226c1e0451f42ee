use lib.ListN.{length, get_or}
use Rattle.model.specs.Counting.{◌<?◌, count}
use Rattle.model.proofs.Loops.{Folded}
use Rattle.allocation.proofs.selection.count_above.Given as goal

abbrev pub invariant-loop-x : goal.invariant-loop-x
invariant-loop-x l = Folded count (length l.xs) (λ k. l.t.0 <? get_or l.xs k 0) l.n l.x-index
