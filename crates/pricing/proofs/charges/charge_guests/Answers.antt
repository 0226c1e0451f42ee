use mathlib.Core.Path.{refl}
use native.Mathlib.Omega.{arith}
use Rattle.model.proofs.Loops.{filling_turn}
use Rattle.pricing.proofs.charges.Charges.{charge_fits, charged_is, charged_end}
use Rattle.pricing.proofs.charges.charge_guests.Goals as goal

pub narrow-requires : goal.narrow-requires
narrow-requires c = charge_fits _ _ _ c.charge_at.ensures (omega arith) (omega arith)

pub loop-i-preserved : goal.loop-i-preserved
loop-i-preserved c = (
  filling_turn c.loop-i.invariant.0 (omega arith) refl,
  filling_turn c.loop-i.invariant.1 (omega arith)
      (charged_is _ _ _ _ c.narrow.ensures c.charge_at.ensures
      c.from.ensures c.from-critical.ensures),
)

pub returns : goal.returns
returns c = charged_end c.loop-i.invariant.0 c.loop-i.invariant.1 (omega arith)
