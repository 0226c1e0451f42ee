use Rattle.allocation.specs.Stages.{BoundedIn}
use Rattle.allocation.proofs.assignment.Assignment.{Turning}
use Rattle.allocation.proofs.assignment.assign_with_bars.Given as goal

abbrev pub invariant-loop-j : goal.invariant-loop-j
invariant-loop-j l =
    Turning l.fn.market l.fn.cut.0 l.j l.initial.totals l.totals l.choices.chosen.now l.choices.gains.now l.criticals
    × BoundedIn l.fn.market l.fn.cut.0 l.j l.bounds
