use lib.ListN.{get_or, length}
use Rattle.model.specs.market.Changes.{change}
use Rattle.model.proofs.Loops.{Filling}
use Rattle.whatif.proofs.changes.tell_changes.Given as goal

-- The loop: the changes of the first k guests are stored.
abbrev pub invariant-loop-k : goal.invariant-loop-k
invariant-loop-k l =
    Filling (length l.before) (change (λ j. get_or l.before j 0) (λ j. get_or l.after j 0) l.guest) l.initial.changes
    l.changes l.k
