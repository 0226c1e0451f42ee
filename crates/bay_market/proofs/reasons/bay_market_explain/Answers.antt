use native.Mathlib.Omega.{arith}
use Rattle.model.specs.market.Reasons.{OutcomeTable, outcome_table}
use Rattle.bay_market.proofs.Explained.{room, told_refused, told_all}
use Rattle.bay_market.proofs.reasons.bay_market_explain.Goals as goal

pub returns-in-Err : goal.returns-in-Err
returns-in-Err c =
    let lists : OutcomeTable = outcome_table c.args.stations.now c.args.charges.now c.args.reasons.now in
    told_refused _ _ _ lists _ c.table_length-places.ensures _ c.in-Err.ensures c.from.ensures

pub lay_out-requires : goal.lay_out-requires
lay_out-requires c =
    let lists : OutcomeTable = outcome_table c.args.stations.now c.args.charges.now c.args.reasons.now in
    let r = room _ _ _ lists _ c.table_length-places.ensures _ c.in-Ok.ensures in
    (r.0, omega (arith, r.1), omega (arith, r.2), omega (arith, r.3))

pub returns-in-Ok : goal.returns-in-Ok
returns-in-Ok c =
    let lists : OutcomeTable = outcome_table c.args.stations.now c.args.charges.now c.args.reasons.now in
    told_all _ _ _ lists _ c.table_length-places.ensures c.in-Ok.told c.in-Ok.ensures c.lay_out.ensures
