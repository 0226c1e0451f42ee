use Rattle.sheet.specs.Taken.{Scanned}
use Rattle.sheet.proofs.empties.any_of.Given as goal

abbrev pub invariant-loop : goal.invariant-loop
invariant-loop g l = Scanned l.initial.cursor l.counter l.empty l.cursor
