use native.Mathlib.Omega.{arith}
use Rattle.pricing.proofs.sales.Sales.{tallied_none, tallied_low, tallied_more, tallied_end}
use Rattle.pricing.proofs.sales.tally_sales.Goals as goal

pub loop-i-init : goal.loop-i-init
loop-i-init c = tallied_none c.requires.kwh_value

pub overflow_add-kwh : goal.overflow_add-kwh
overflow_add-kwh c =
    omega (
      arith,
      c.requires.sellable.amounts_low c.loop-i.i,
      tallied_low _ c.loop-i.invariant c.slot-s.ensures.0 c.requires.sellable.amounts_low,
    )

pub loop-i-preserved : goal.loop-i-preserved
loop-i-preserved c = tallied_more c.loop-i.invariant (omega arith) (omega arith, cc) (omega arith)

pub returns : goal.returns
returns c = tallied_end c.loop-i.invariant (omega arith)
