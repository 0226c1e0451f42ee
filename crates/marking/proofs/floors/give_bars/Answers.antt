use native.Mathlib.Omega.{arith}
use Rattle.model.proofs.Loops.{filling_turn, filling_end}
use Rattle.marking.specs.Places.{bar_at}
use Rattle.marking.proofs.floors.give_bars.Goals as goal

pub loop-j-preserved : goal.loop-j-preserved
unfolding bar_at
loop-j-preserved c = filling_turn c.loop-j.invariant c.loop-j-test.true c.bar.ensures

pub returns : goal.returns
returns c = filling_end c.loop-j.invariant (omega arith)
