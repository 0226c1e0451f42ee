use lib.ListN.{length}
use Rattle.model.proofs.Loops.{Filling}
use Rattle.marking.specs.Places.{bar_at}
use Rattle.marking.proofs.floors.give_bars.Given as goal

-- The loop: the first j places hold the first j bars.
abbrev pub invariant-loop-j : goal.invariant-loop-j
invariant-loop-j l = Filling (length l.asks) (bar_at l.asks l.cut.0 l.criticals) l.initial.bars l.bars l.j
