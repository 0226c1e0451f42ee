use mathlib.Core.Path.{sym, ◌∙◌}
use Rattle.std.proofs.lemmas.Result.{err_from_is_err_and}
use Rattle.model.specs.Numbers.{answer_of_verdict, answer_of_check}
use Rattle.model.specs.market.Faults.{verdict}
use Rattle.model.proofs.Verdicts.{fault_first, fault_second}
use Rattle.menu.proofs.faults.accept_listing.Goals as goal

pub returns-in_err-accepted-clause-fault : goal.returns-in_err-accepted-clause-fault
unfolding verdict answer_of_check
returns-in_err-accepted-clause-fault c =
    let p = err_from_is_err_and c.from_residual.result c.from_residual.ensures.1 in
    rw (p.1, p.2) (sym (fault_first _ _ (sym c.in_err-accepted.ensures.fault)))

pub returns-in_err-list_fault-clause-fault : goal.returns-in_err-list_fault-clause-fault
unfolding verdict answer_of_verdict answer_of_check
returns-in_err-list_fault-clause-fault c =
    let q = c.from_residual-in_err-list_fault in
    let p = err_from_is_err_and q.result q.ensures.1 in
    let same = c.accepted.view_is ∙ c.in_ok-accepted.ensures.same in
    rw (p.1, p.2, ← same) (c.in_err-list_fault.ensures
    ∙ sym (fault_second _ _ (rw (← same) at (sym c.in_ok-accepted.ensures.fault))))

pub returns-clause-fault : goal.returns-clause-fault
unfolding verdict answer_of_verdict answer_of_check
returns-clause-fault c =
    let same = c.accepted.view_is ∙ c.in_ok-accepted.ensures.same in
    rw (← same) (c.in_ok-list_fault.ensures
    ∙ sym (fault_second _ _ (rw (← same) at (sym c.in_ok-accepted.ensures.fault))))
