use Rattle.checks.proofs.tickets.Tickets.{Scanned}
use Rattle.checks.proofs.tickets.some_repeat.Given as goal

abbrev pub invariant-loop-k : goal.invariant-loop-k
invariant-loop-k l = Scanned l.tickets l.seen l.found l.k
