use mathlib.Core.Logic.{inl, inr}
use mathlib.Core.Path.{sym, ◌∙◌}
use native.Mathlib.Omega.{arith}
use Rattle.model.proofs.Loops.{folded_end, counted_none, count_turn, count_low}
use Rattle.allocation.specs.Ties.{ties_below}
use Rattle.allocation.proofs.ties.Ties.{tied_is}
use Rattle.allocation.proofs.ties.count_ties.Goals as goal
use Rattle.allocation.proofs.ties.count_ties.Goals.{then-total-at, else-total-at}

pub loop-i-init : goal.loop-i-init
loop-i-init c = counted_none

pub overflow_add-n : goal.overflow_add-n
overflow_add-n c = omega (arith, count_low c.loop-i.invariant, c.requires.0)

pub loop-i-preserved : goal.loop-i-preserved
loop-i-preserved c =
    count_turn c.loop-i.invariant (omega arith)
    (elim c.if-total-at.branch [
      | then-total-at w ↦ inl (sym (tied_is _ _ _ _) ∙ w.if-total-at.true, w.n-is)
      | else-total-at w ↦ inr (sym (tied_is _ _ _ _) ∙ w.if-total-at.false, w.n-is)
    ])

pub returns : goal.returns
unfolding ties_below
returns c = rw (← c.narrow-at.ensures) (folded_end c.loop-i.invariant (omega arith))
