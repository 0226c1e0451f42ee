use Rattle.quiet.specs.Efficient.{of}
use Rattle.quiet.specs.Rounds.{screened}
use Rattle.quiet.proofs.takers.Takers.{BestSoFar}
use Rattle.quiet.proofs.takers.best_choice.Given as goal

abbrev pub invariant-loop-j : goal.invariant-loop-j
invariant-loop-j l = BestSoFar (screened l.round) (of l.bars) l.x l.j-items l.top.0 l.j-index
