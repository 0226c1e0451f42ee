use mathlib.Core.Path.{◌∙◌}
use native.Mathlib.Omega.{arith}
use Rattle.model.specs.market.Changes.{change, changes}
use Rattle.model.proofs.Loops.{filling_turn, filling_end}
use Rattle.whatif.proofs.changes.tell_changes.Goals as goal

pub loop-k-preserved : goal.loop-k-preserved
unfolding change
loop-k-preserved c = filling_turn c.loop-k.invariant (omega arith) (c.from.ensures ∙ c.change.ensures)

pub returns : goal.returns
unfolding changes
returns c = filling_end c.loop-k.invariant (omega arith)
