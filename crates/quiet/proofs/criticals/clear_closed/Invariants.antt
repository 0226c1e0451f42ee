use Rattle.std.proofs.Common.{suc}
use Rattle.model.specs.Counting.{◌<?◌, only}
use Rattle.quiet.specs.Efficient.{of}
use Rattle.quiet.specs.Criticals.{Renewed}
use Rattle.quiet.proofs.criticals.clear_closed.Given as goal

abbrev pub invariant-loop-j : goal.invariant-loop-j
invariant-loop-j l =
    Renewed l.j (λ j. only (of l.asks j <? l.cut.0) (of l.initial.criticals (suc j))) l.initial.criticals l.criticals
