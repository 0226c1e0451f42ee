use native.Mathlib.Omega.{arith}
use Rattle.model.specs.Counting.{◌<?◌}
use Rattle.model.proofs.Tests.{only_le}
use Rattle.allocation.proofs.holding.Holding.{held_is}
use Rattle.allocation.proofs.holding.holds.Goals as goal

pub below-requires : goal.below-requires
below-requires c =
    let args = c.args in
    (omega arith, omega (arith, c.credited.ensures, only_le (args.ticket <? args.bound) 1 1 (λ _. omega arith)))

pub returns : goal.returns
returns c = held_is _ _ _ _ c.credited.ensures c.below.ensures
