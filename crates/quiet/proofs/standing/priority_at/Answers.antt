use Rattle.std.proofs.Common.{arith}
use Rattle.allocation.specs.Screens.{screened_at}
use Rattle.quiet.specs.Seating.{priority}
use Rattle.quiet.proofs.standing.Standing.{total_low}
use Rattle.quiet.proofs.standing.priority_at.Goals as goal

pub overflow_mul-result : goal.overflow_mul-result
overflow_mul-result c =
    let w = c.args.round.now.priced in
    omega (arith, c.total_at-total.ensures, total_low _ w.within c.args.round.now.cut.0 c.requires.0 c.requires.1)

pub overflow_add-result : goal.overflow_add-result
overflow_add-result c =
    let w = c.args.round.now.priced in
    omega (
      arith,
      c.from.ensures,
      c.total_at-total.ensures,
      total_low _ w.within c.args.round.now.cut.0 c.requires.0 c.requires.1,
    )

pub returns : goal.returns
unfolding priority screened_at
returns c = rw (← c.market.view_is) (omega (arith, c.from.ensures, rw (← c.market.view_is) at c.total_at-total.ensures))
