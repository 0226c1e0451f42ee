use Rattle.std.proofs.Common.{suc}
use Rattle.quiet.specs.Efficient.{of, hopes}
use Rattle.quiet.specs.Rounds.{screened}
use Rattle.quiet.proofs.service.Service.{InHand}
use Rattle.quiet.proofs.service.serve.Given as goal

abbrev pub invariant-loop-out : goal.invariant-loop-out
invariant-loop-out l = InHand l.round.market.now l.round.cut.0 l.x (suc l.guest) (of l.initial.seating.chosen) l.seating

abbrev pub decreases-loop-out : goal.decreases-loop-out
decreases-loop-out l = hopes (screened l.round) (of l.seating.chosen)
