use mathlib.Core.Bool.{not}
use mathlib.Core.Path.{sym, ap, ◌∙◌}
use Rattle.model.specs.Numbers.{answer_of_verdict}
use Rattle.model.specs.market.Menus.{gain_faults}
use Rattle.model.proofs.Tests.{not_eq}
use Rattle.model.proofs.Verdicts.{fault_none, fault_here, fault_later}
use Rattle.model.proofs.market.Acceptance.{not_unequal}
use Rattle.menu.proofs.faults.gain_fault.Goals as goal

-- Each test is a row of the table, in its order.
pub returns-then-no_such_guest : goal.returns-then-no_such_guest
unfolding gain_faults answer_of_verdict
returns-then-no_such_guest c = sym (fault_here _ (sym c.no_such_guest.ensures ∙ c.if-no_such_guest.true))

pub returns-then-rows_differ : goal.returns-then-rows_differ
unfolding gain_faults answer_of_verdict
returns-then-rows_differ c =
    sym (fault_later _ _ (sym c.no_such_guest.ensures ∙ c.if-no_such_guest.false)
    ∙ fault_here _ (sym c.rows_differ.ensures ∙ c.if-rows_differ.true))

pub returns-then-gains-rows : goal.returns-then-gains-rows
unfolding gain_faults answer_of_verdict
returns-then-gains-rows c =
    sym (fault_later _ _ (sym c.no_such_guest.ensures ∙ c.if-no_such_guest.false)
    ∙ fault_later _ _ (sym c.rows_differ.ensures ∙ c.if-rows_differ.false)
    ∙ fault_here _ (ap not (not_eq _ _ c.if-gains-rows.true)))

pub returns-then-prices_out_of_range : goal.returns-then-prices_out_of_range
unfolding gain_faults answer_of_verdict
returns-then-prices_out_of_range c =
    sym (fault_later _ _ (sym c.no_such_guest.ensures ∙ c.if-no_such_guest.false)
    ∙ fault_later _ _ (sym c.rows_differ.ensures ∙ c.if-rows_differ.false)
    ∙ fault_later _ _ (not_unequal _ _ c.if-gains-rows.false)
    ∙ fault_here _ (sym c.prices_out_of_range.ensures ∙ c.if-prices_out_of_range.true))

pub returns : goal.returns
unfolding gain_faults answer_of_verdict
returns c =
    sym (fault_later _ _ (sym c.no_such_guest.ensures ∙ c.if-no_such_guest.false)
    ∙ fault_later _ _ (sym c.rows_differ.ensures ∙ c.if-rows_differ.false)
    ∙ fault_later _ _ (not_unequal _ _ c.if-gains-rows.false)
    ∙ fault_later _ _ (sym c.prices_out_of_range.ensures ∙ c.if-prices_out_of_range.false) ∙ fault_none)
