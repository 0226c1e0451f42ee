use Rattle.std.proofs.Common.{length, ◌-◌}
use Rattle.quiet.specs.Efficient.{of}
use Rattle.quiet.specs.Rounds.{screened}
use Rattle.quiet.proofs.seats.Slots.{LastSoFar}
use Rattle.quiet.proofs.seats.Seating.last_holder.Given as goal

abbrev pub invariant-loop-seen : goal.invariant-loop-seen
invariant-loop-seen l =
    LastSoFar (screened l.round) l.j (length l.round.market.now.amounts) (of l.self.held l.j) (of l.self.firsts l.j)
    l.self.nexts l.i l.before l.holder.guest l.holder.before (of l.self.held l.j - l._seen)
