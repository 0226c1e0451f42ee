use lib.ListN.{length, get_or}
use Rattle.model.specs.Counting.{count}
use Rattle.model.proofs.Loops.{Folded}
use Rattle.menu.specs.Keys.{rest_before}
use Rattle.menu.proofs.keys.label.Given as goal

abbrev pub invariant-loop-k : goal.invariant-loop-k
invariant-loop-k l =
    Folded count (length l.rests) (λ k. rest_before (get_or l.rests l.j 0) (get_or l.rests k 0) l.j k) l.n l.k
