use mathlib.Core.Logic.{inl, inr}
use mathlib.Core.Path.{sym, ◌∙◌}
use native.Mathlib.Omega.{arith}
use Rattle.model.proofs.Loops.{folded_end, counted_none, count_turn, count_low}
use Rattle.model.proofs.Compared.{lt_is}
use Rattle.pricing.specs.CutAsk.{under}
use Rattle.pricing.proofs.cut.count_below.Goals as goal
use Rattle.pricing.proofs.cut.count_below.Goals.{then-lt, else-lt}

pub loop-ask-init : goal.loop-ask-init
loop-ask-init c = counted_none

pub overflow_add-n : goal.overflow_add-n
overflow_add-n c = omega (arith, count_low c.loop-ask.invariant)

pub loop-ask-preserved : goal.loop-ask-preserved
loop-ask-preserved c =
    count_turn c.loop-ask.invariant (omega arith)
    (elim c.if-lt.branch [
      | then-lt w ↦ inl (sym (lt_is _ _) ∙ sym c.lt.ensures ∙ w.if-lt.true, w.n-is)
      | else-lt w ↦ inr (sym (lt_is _ _) ∙ sym c.lt.ensures ∙ w.if-lt.false, w.n-is)
    ])

pub returns : goal.returns
unfolding under
returns c = folded_end c.loop-ask.invariant (omega arith)
