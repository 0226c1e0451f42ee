use Rattle.std.proofs.Common.{arith}
use Rattle.model.proofs.Loops.{long}
use Rattle.quiet.proofs.criticals.Criticals.{criticals_are, seats_known}
use Rattle.quiet.proofs.criticals.all_criticals.Goals as goal

pub raise_all-requires-clause-seats : goal.raise_all-requires-clause-seats
raise_all-requires-clause-seats c = seats_known _ (rw (← c.seating.view_is) at c.requires.held_in)

pub clear_closed-requires : goal.clear_closed-requires
clear_closed-requires c =
    omega (arith, c.raise_all.ensures.same, long _ _ c.requires.criticals_value, c.market.invariant.shape.stations_most)

pub returns : goal.returns
returns c =
    rw (← c.seating.view_is) (criticals_are _ c.args.round.now.priced
    (seats_known _ (rw (← c.seating.view_is) at c.requires.held_in)) c.requires.criticals_value
    c.raise_all.ensures (rw (← c.market.view_is) c.clear_closed.ensures))
