use mathlib.Core.Path.{sym, ◌∙◌}
use Rattle.model.specs.market.Faults.{values}
use Rattle.model.proofs.Verdicts.{fault_none, fault_here, fault_later}
use Rattle.model.specs.Numbers.{answer_of_verdict}
use Rattle.checks.proofs.Ranges.{any_outside_is}
use Rattle.checks.proofs.faults.value_fault.Goals as goal

pub returns-then-any_outside : goal.returns-then-any_outside
unfolding values answer_of_verdict
returns-then-any_outside c = rw (← c.market.view_is) (sym (
    fault_here _ (sym (c.any_outside.ensures ∙ any_outside_is _ _ _) ∙ c.if-any_outside.true)))

pub returns-then-any_outside-2 : goal.returns-then-any_outside-2
unfolding values answer_of_verdict
returns-then-any_outside-2 c = rw (← c.market.view_is) (sym (
    fault_later _ _ (sym (c.any_outside.ensures ∙ any_outside_is _ _ _) ∙ c.if-any_outside.false)
    ∙ fault_here _ (sym (c.any_outside-2.ensures ∙ any_outside_is _ _ _) ∙ c.if-any_outside-2.true)))

pub returns-then-any_outside-3 : goal.returns-then-any_outside-3
unfolding values answer_of_verdict
returns-then-any_outside-3 c = rw (← c.market.view_is) (sym (
    fault_later _ _ (sym (c.any_outside.ensures ∙ any_outside_is _ _ _) ∙ c.if-any_outside.false)
    ∙ fault_later _ _ (sym (c.any_outside-2.ensures ∙ any_outside_is _ _ _) ∙ c.if-any_outside-2.false)
    ∙ fault_here _ (sym (c.any_outside-3.ensures ∙ any_outside_is _ _ _) ∙ c.if-any_outside-3.true)))

pub returns-then-any_outside-4 : goal.returns-then-any_outside-4
unfolding values answer_of_verdict
returns-then-any_outside-4 c = rw (← c.market.view_is) (sym (
    fault_later _ _ (sym (c.any_outside.ensures ∙ any_outside_is _ _ _) ∙ c.if-any_outside.false)
    ∙ fault_later _ _ (sym (c.any_outside-2.ensures ∙ any_outside_is _ _ _) ∙ c.if-any_outside-2.false)
    ∙ fault_later _ _ (sym (c.any_outside-3.ensures ∙ any_outside_is _ _ _) ∙ c.if-any_outside-3.false)
    ∙ fault_here _ (sym (c.any_outside-4.ensures ∙ any_outside_is _ _ _) ∙ c.if-any_outside-4.true)))

pub returns-then-any_repeats : goal.returns-then-any_repeats
unfolding values answer_of_verdict
returns-then-any_repeats c = rw (← c.market.view_is) (sym (
    fault_later _ _ (sym (c.any_outside.ensures ∙ any_outside_is _ _ _) ∙ c.if-any_outside.false)
    ∙ fault_later _ _ (sym (c.any_outside-2.ensures ∙ any_outside_is _ _ _) ∙ c.if-any_outside-2.false)
    ∙ fault_later _ _ (sym (c.any_outside-3.ensures ∙ any_outside_is _ _ _) ∙ c.if-any_outside-3.false)
    ∙ fault_later _ _ (sym (c.any_outside-4.ensures ∙ any_outside_is _ _ _) ∙ c.if-any_outside-4.false)
    ∙ fault_here _ (sym c.any_repeats.ensures ∙ c.if-any_repeats.true)))

pub returns : goal.returns
unfolding values answer_of_verdict
returns c = rw (← c.market.view_is) (sym (
    fault_later _ _ (sym (c.any_outside.ensures ∙ any_outside_is _ _ _) ∙ c.if-any_outside.false)
    ∙ fault_later _ _ (sym (c.any_outside-2.ensures ∙ any_outside_is _ _ _) ∙ c.if-any_outside-2.false)
    ∙ fault_later _ _ (sym (c.any_outside-3.ensures ∙ any_outside_is _ _ _) ∙ c.if-any_outside-3.false)
    ∙ fault_later _ _ (sym (c.any_outside-4.ensures ∙ any_outside_is _ _ _) ∙ c.if-any_outside-4.false)
    ∙ fault_later _ _ (sym c.any_repeats.ensures ∙ c.if-any_repeats.false)
    ∙ fault_none))
