use mathlib.Core.Path.{sym, ◌∙◌}
use Rattle.std.proofs.lemmas.Result.{err_from_is_err_and}
use Rattle.model.specs.Counting as counting
use Rattle.model.specs.Numbers.{answer_of_verdict, answer_of_check}
use Rattle.model.specs.market.Faults.{list_lengths, values, verdict, market_faults, table_faults}
use Rattle.model.proofs.Verdicts.{fault_here, fault_later, fault_first, fault_second}
use Rattle.checks.proofs.faults.accept_for_clearing.Goals as goal

pub returns-in_err-market_size_fault-clause-fault : goal.returns-in_err-market_size_fault-clause-fault
unfolding table_faults answer_of_verdict answer_of_check
returns-in_err-market_size_fault-clause-fault c =
    let p = err_from_is_err_and c.from_residual.result c.from_residual.ensures.1 in
    rw (p.1, p.2) (sym (fault_first _ _ (sym c.in_err-market_size_fault.ensures)))

pub returns-then-differ-clause-fault : goal.returns-then-differ-clause-fault
unfolding table_faults list_lengths answer_of_verdict answer_of_check counting.◌or◌ counting.◌=?◌
returns-then-differ-clause-fault c =
    sym (fault_second _ _ (sym c.in_ok-market_size_fault.ensures)
    ∙ fault_here _ (rw (← c.market.view_is) c.if-differ.true))

pub returns-in_err-value_fault-clause-fault : goal.returns-in_err-value_fault-clause-fault
unfolding table_faults list_lengths values answer_of_verdict answer_of_check counting.◌or◌ counting.◌=?◌
returns-in_err-value_fault-clause-fault c =
    let q = c.from_residual-in_err-value_fault in
    let p = err_from_is_err_and q.result q.ensures.1 in
    rw (p.1, p.2) (c.in_err-value_fault.ensures
    ∙ sym (fault_second _ _ (sym c.in_ok-market_size_fault.ensures)
    ∙ fault_later _ _ (rw (← c.market.view_is) c.if-differ.false)))

pub accepted-requires : goal.accepted-requires
unfolding verdict market_faults answer_of_verdict
accepted-requires c = fault_second _ _ (sym c.in_ok-market_size_fault.ensures) ∙ sym c.in_ok-value_fault.ensures

pub returns-clause-fault : goal.returns-clause-fault
unfolding table_faults list_lengths values answer_of_verdict answer_of_check counting.◌or◌ counting.◌=?◌
returns-clause-fault c =
    c.in_ok-value_fault.ensures
    ∙ sym (fault_second _ _ (sym c.in_ok-market_size_fault.ensures)
    ∙ fault_later _ _ (rw (← c.market.view_is) c.if-differ.false))
