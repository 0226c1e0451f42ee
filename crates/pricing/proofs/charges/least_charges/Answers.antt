use native.Mathlib.Omega.{arith}
use Rattle.model.proofs.Loops.{filling_end}
use Rattle.pricing.proofs.charges.least_charges.Goals as goal

pub returns : goal.returns
returns c = filling_end c.loop-i.invariant (omega arith)
