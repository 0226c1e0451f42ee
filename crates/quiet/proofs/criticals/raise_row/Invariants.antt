use Rattle.quiet.specs.Criticals.{raised_by, Renewed}
use Rattle.quiet.proofs.criticals.raise_row.Given as goal

abbrev pub invariant-loop-j : goal.invariant-loop-j
invariant-loop-j l =
    Renewed l.j (raised_by l.row l.amount l.least.0 l.initial.criticals) l.initial.criticals l.criticals
