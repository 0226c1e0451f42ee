use Rattle.std.proofs.Common.{◌≤◌, length, arith}
use Rattle.model.specs.Limits.{max_stations}
use Rattle.model.proofs.Loops.{long}
use Rattle.quiet.specs.Criticals.{Rows}
use Rattle.quiet.proofs.criticals.Criticals.{rows_known, passed_none, passed_room, passed_turn}
use Rattle.quiet.proofs.criticals.raise_all.Goals as goal
use Rattle.quiet.proofs.criticals.raise_all.Goals.{Start}

known :
    (c : Start)
    → Rows c.args.round.now.market.now.amounts c.args.round.now.market.now.bids c.args.chosen.now
    (length c.args.round.now.market.now.asks) c.args.round.now.cut.0
    × (length c.args.round.now.market.now.asks ≤ max_stations)
known c =
    let priced = c.args.round.now.priced in
    (rows_known _ priced c.requires.seats, priced.within.shape.stations_most)

pub loop-i-init : goal.loop-i-init
loop-i-init c =
    let (rows, few) = known (goal.at.loop-i-init c).Start in
    passed_none _ _ _ rows c.requires.criticals_value few

pub raise-requires-clause-room : goal.raise-requires-clause-room
raise-requires-clause-room c =
    let (rows, few) = known (goal.at.raise-requires-clause-room c).Start in
    passed_room _ _ _ rows _ c.loop-i.invariant (omega (arith, c.loop-i-test.true, c.requires.seats.long))
    (omega (arith, few, long _ _ c.requires.criticals_value))

pub loop-i-preserved : goal.loop-i-preserved
loop-i-preserved c =
    let (rows, _) = known (goal.at.loop-i-preserved c).Start in
    passed_turn _ _ _ rows _ c.loop-i.invariant c.raise.ensures
