use mathlib.Core.Path.{sym, ◌∙◌}
use Rattle.model.specs.Numbers.{answer_of_verdict}
use Rattle.model.specs.market.Menus.{list_faults}
use Rattle.model.proofs.Verdicts.{fault_none, fault_here, fault_later}
use Rattle.menu.proofs.faults.list_fault.Goals as goal

-- Each test is a row of the table, in its order.
pub returns-then-no_such_guest : goal.returns-then-no_such_guest
unfolding list_faults answer_of_verdict
returns-then-no_such_guest c = sym (fault_here _ (sym c.no_such_guest.ensures ∙ c.if-no_such_guest.true))

pub returns-then-lists_differ : goal.returns-then-lists_differ
unfolding list_faults answer_of_verdict
returns-then-lists_differ c =
    sym (fault_later _ _ (sym c.no_such_guest.ensures ∙ c.if-no_such_guest.false)
    ∙ fault_here _ (sym c.lists_differ.ensures ∙ c.if-lists_differ.true))

pub returns : goal.returns
unfolding list_faults answer_of_verdict
returns c =
    sym (fault_later _ _ (sym c.no_such_guest.ensures ∙ c.if-no_such_guest.false)
    ∙ fault_later _ _ (sym c.lists_differ.ensures ∙ c.if-lists_differ.false) ∙ fault_none)
