use lib.ListN.{length, get_or}
use Rattle.model.specs.Counting.{◌≤?◌, only, greatest}
use Rattle.model.proofs.Loops.{Folded}
use Rattle.allocation.proofs.selection.largest_at_most.Given as goal

abbrev pub invariant-loop-x : goal.invariant-loop-x
invariant-loop-x l =
    Folded greatest (length l.xs) (λ k. only (get_or l.xs k 0 ≤? l.t.0) (get_or l.xs k 0)) l.r.0 l.x-index
