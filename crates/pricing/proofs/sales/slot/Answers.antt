use native.Mathlib.Omega.{arith}
use Rattle.pricing.proofs.sales.Sales.{slot_some, slot_none}
use Rattle.pricing.proofs.sales.slot.Goals as goal

pub returns-then-s-gt0 : goal.returns-then-s-gt0
returns-then-s-gt0 c = (omega arith, slot_some _ _ c.if-s-gt0.true)

pub returns-else-s-gt0 : goal.returns-else-s-gt0
returns-else-s-gt0 c = (omega arith, slot_none _ _ c.if-s-gt0.false)
