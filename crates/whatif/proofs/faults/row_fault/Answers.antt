use mathlib.Core.Bool.{not}
use mathlib.Core.Path.{sym, ap, ◌∙◌}
use Rattle.model.specs.Numbers.{answer_of_verdict}
use Rattle.model.specs.market.Changes.{try_faults}
use Rattle.model.proofs.Tests.{not_eq}
use Rattle.model.proofs.Verdicts.{fault_none, fault_here, fault_later}
use Rattle.model.proofs.market.Acceptance.{not_unequal}
use Rattle.whatif.proofs.faults.row_fault.Goals as goal

-- Each test is a row of the table, in its order.
pub returns-then-no_such_guest : goal.returns-then-no_such_guest
unfolding try_faults answer_of_verdict
returns-then-no_such_guest c = sym (fault_here _ (sym c.no_such_guest.ensures ∙ c.if-no_such_guest.true))

pub returns-then-row_lengths_differ : goal.returns-then-row_lengths_differ
unfolding try_faults answer_of_verdict
returns-then-row_lengths_differ c =
    sym (fault_later _ _ (sym c.no_such_guest.ensures ∙ c.if-no_such_guest.false)
    ∙ fault_here _ (sym c.row_lengths_differ.ensures ∙ c.if-row_lengths_differ.true))

pub returns-then-changes-n : goal.returns-then-changes-n
unfolding try_faults answer_of_verdict
returns-then-changes-n c =
    sym (fault_later _ _ (sym c.no_such_guest.ensures ∙ c.if-no_such_guest.false)
    ∙ fault_later _ _ (sym c.row_lengths_differ.ensures ∙ c.if-row_lengths_differ.false)
    ∙ fault_here _ (ap not (not_eq _ _ c.if-changes-n.true)))

pub returns-then-prices_out_of_range : goal.returns-then-prices_out_of_range
unfolding try_faults answer_of_verdict
returns-then-prices_out_of_range c =
    sym (fault_later _ _ (sym c.no_such_guest.ensures ∙ c.if-no_such_guest.false)
    ∙ fault_later _ _ (sym c.row_lengths_differ.ensures ∙ c.if-row_lengths_differ.false)
    ∙ fault_later _ _ (not_unequal _ _ c.if-changes-n.false)
    ∙ fault_here _ (sym c.prices_out_of_range.ensures ∙ c.if-prices_out_of_range.true))

pub returns : goal.returns
unfolding try_faults answer_of_verdict
returns c =
    sym (fault_later _ _ (sym c.no_such_guest.ensures ∙ c.if-no_such_guest.false)
    ∙ fault_later _ _ (sym c.row_lengths_differ.ensures ∙ c.if-row_lengths_differ.false)
    ∙ fault_later _ _ (not_unequal _ _ c.if-changes-n.false)
    ∙ fault_later _ _ (sym c.prices_out_of_range.ensures ∙ c.if-prices_out_of_range.false) ∙ fault_none)
