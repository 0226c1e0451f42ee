use native.Mathlib.Omega.{arith}
use Rattle.model.proofs.Loops.{filling_end}
use Rattle.allocation.proofs.totals.Totals.{as_many}
use Rattle.menu.proofs.listing.list_stations.Goals as goal

pub returns : goal.returns
returns c =
    let i = c.loop-j.invariant in
    let all = as_many c.market.view_is in
    (filling_end i.0 (omega (arith, all)), filling_end i.1 (omega (arith, all)))
