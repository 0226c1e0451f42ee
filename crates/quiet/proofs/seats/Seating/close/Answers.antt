use Rattle.std.proofs.Common.{arith}
use Rattle.quiet.proofs.standing.Standing.{priority_low}
use Rattle.quiet.proofs.seats.Slots.{last_of_guest}
use Rattle.quiet.proofs.seats.Seating.close.Goals as goal

pub overflow_add-self : goal.overflow_add-self
overflow_add-self c =
    let priced = c.args.round.now.priced in
    omega (
      arith,
      c.priority_at.ensures,
      priority_low _ priced.within c.args.round.now.cut.0 (last_of_guest c.last_holder-holder.ensures)
          c.requires.sized.1,
    )
