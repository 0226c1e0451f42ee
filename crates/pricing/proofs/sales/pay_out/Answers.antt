use native.Mathlib.Omega.{arith}
use Rattle.model.proofs.Loops.{filling_end}
use Rattle.pricing.proofs.sales.pay_out.Goals as goal

pub returns : goal.returns
returns c = record {
  sold_are = filling_end c.loop-j.invariant.0 (omega arith);
  paid_are = filling_end c.loop-j.invariant.1 (omega arith);
}
