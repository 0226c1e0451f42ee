use Rattle.std.proofs.Common.{◌-◌, ◌≤◌, arith}
use Rattle.model.specs.Limits.{max_stations, max_price}
use Rattle.quiet.specs.Efficient.{of}
use Rattle.quiet.proofs.criticals.Ranks.{least_of_none, least_of_seat}
use Rattle.quiet.proofs.criticals.least_rank.Goals as goal

pub returns-then-seat-eq0 : goal.returns-then-seat-eq0
returns-then-seat-eq0 c = (least_of_none _ _ c.if-seat-eq0.true, omega arith)

pub returns : goal.returns
returns c =
    let low : of c.args.row.now (c.args.seat - 1) ≤ max_price =
    c.requires.0.bid_most (c.args.seat - 1) (omega (arith, c.if-seat-eq0.false, c.requires.2)) in
    let few : c.args.seat ≤ max_stations = omega (arith, c.requires.0.few, c.requires.2) in
    (least_of_seat _ _ _ c.if-seat-eq0.false few, omega (arith, low))
