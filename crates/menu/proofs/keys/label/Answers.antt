use Prim.Native.Nat.{◌+◌}
use mathlib.Core.Logic.{inl, inr}
use mathlib.Core.Path.{sym, ap, ◌∙◌}
use native.Mathlib.Omega.{arith}
use Rattle.model.proofs.Loops.{folded_end, counted_none, count_turn, count_low}
use Rattle.menu.specs.Keys.{label_by}
use Rattle.menu.proofs.keys.label.Goals as goal
use Rattle.menu.proofs.keys.label.Goals.{then-goes_before, else-goes_before}

pub loop-k-init : goal.loop-k-init
loop-k-init c = counted_none

pub overflow_add-n : goal.overflow_add-n
overflow_add-n c = omega (arith, count_low c.loop-k.invariant, c.requires.1)

pub loop-k-preserved : goal.loop-k-preserved
loop-k-preserved c =
    count_turn c.loop-k.invariant (omega arith)
    (elim c.if-goes_before.branch [
      | then-goes_before w ↦ inl (sym c.goes_before.ensures ∙ w.if-goes_before.true, w.n-is)
      | else-goes_before w ↦ inr (sym c.goes_before.ensures ∙ w.if-goes_before.false, w.n-is)
    ])

pub overflow_add-result : goal.overflow_add-result
overflow_add-result c = omega (arith, count_low c.loop-k.invariant, c.loop-k.invariant.within, c.requires.1)

pub returns : goal.returns
unfolding label_by
returns c = ap (λ x. x + 1) (folded_end c.loop-k.invariant (omega arith))
