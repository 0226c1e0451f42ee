use mathlib.Core.Logic.{inl, inr}
use mathlib.Core.Path.{sym, ap, ◌∙◌}
use native.Mathlib.Omega.{arith}
use Rattle.model.specs.Counting.{◌<?◌}
use Rattle.model.proofs.Loops.{folded_end, counted_none, count_turn, count_low}
use Rattle.allocation.specs.Selection.{above}
use Rattle.allocation.proofs.selection.count_above.Goals as goal
use Rattle.allocation.proofs.selection.count_above.Goals.{then-below, else-below}

pub loop-x-init : goal.loop-x-init
loop-x-init c = counted_none

pub overflow_add-n : goal.overflow_add-n
overflow_add-n c =
    omega (arith, count_low c.loop-x.invariant, c.requires.0)

pub loop-x-preserved : goal.loop-x-preserved
loop-x-preserved c =
    let is = ap (λ x. c.args.t.0 <? x) (sym c.from.ensures)
    ∙ sym c.below.ensures in
    count_turn c.loop-x.invariant (omega arith)
    (elim c.if-below.branch [
      | then-below w ↦ inl ((is ∙ w.if-below.true, w.n-is))
      | else-below w ↦ inr ((is ∙ w.if-below.false, w.n-is))
    ])

pub returns : goal.returns
unfolding above
returns c = folded_end c.loop-x.invariant (omega arith)
