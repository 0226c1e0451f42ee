use Rattle.std.proofs.Common.{◌%◌, ◌-◌, sym, arith}
use Rattle.model.proofs.Tests.{only_yes, only_no, is_lt, not_lt}
use Rattle.quiet.specs.Seating.{station_in}
use Rattle.quiet.proofs.takers.station_of.Goals as goal

pub returns-then-low-eq0 : goal.returns-then-low-eq0
unfolding station_in
returns-then-low-eq0 c = sym (only_no _ _ (not_lt _ _ (omega (arith, c.if-low-eq0.true))))

pub returns-else-low-eq0 : goal.returns-else-low-eq0
unfolding station_in
returns-else-low-eq0 c =
    let low = c.args.top.0 % 256 in
    omega (arith, only_yes _ (65 - low) (is_lt 0 low (omega (arith, c.if-low-eq0.false))))
