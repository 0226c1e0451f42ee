use mathlib.Core.Path.{refl}
use native.Mathlib.Omega.{arith}
use Rattle.model.proofs.Loops.{folded_end, greatest_none, greatest_turn}
use Rattle.pricing.specs.CutAsk.{cut_ask}
use Rattle.pricing.proofs.cut.cut.Goals as goal

pub loop-ask-init : goal.loop-ask-init
loop-ask-init c = greatest_none

pub loop-ask-preserved : goal.loop-ask-preserved
loop-ask-preserved c = greatest_turn c.loop-ask.invariant (omega arith) refl c.raised-r.ensures

pub returns : goal.returns
unfolding cut_ask
returns c = rw (← c.position-position.ensures) (folded_end c.loop-ask.invariant (omega arith))
