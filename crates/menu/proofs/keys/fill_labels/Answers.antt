use native.Mathlib.Omega.{arith}
use Rattle.model.proofs.Loops.{filling_end}
use Rattle.menu.proofs.keys.fill_labels.Goals as goal

pub returns : goal.returns
returns c = filling_end c.loop-j.invariant (omega arith)
