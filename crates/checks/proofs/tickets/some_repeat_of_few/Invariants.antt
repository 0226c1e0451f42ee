use lib.ListN.{length}
use Rattle.model.specs.Counting.{some}
use Rattle.model.proofs.Loops.{Folded}
use Rattle.checks.specs.Tickets.{stands_before}
use Rattle.checks.proofs.tickets.some_repeat_of_few.Given as goal

abbrev pub invariant-loop-k : goal.invariant-loop-k
invariant-loop-k l = Folded some (length l.tickets) (stands_before l.tickets) l.found l.k
