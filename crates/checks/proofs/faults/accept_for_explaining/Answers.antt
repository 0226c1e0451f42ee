use Prim.Native.Nat.{◌≤◌}
use mathlib.Core.Path.{sym, subst, ◌∙◌}
use lib.ListN.{length}
use Rattle.std.proofs.lemmas.Result.{err_from_is_err_and}
use Rattle.model.specs.Limits.{max_guests, max_stations}
use Rattle.model.specs.Numbers.{answer_of_verdict, answer_of_check}
use Rattle.model.specs.market.Faults.{counts, explained_lengths, values, verdict, market_faults, explained_faults}
use Rattle.model.proofs.Verdicts.{fault_here, fault_later, fault_first, fault_second, no_fault}
use Rattle.model.proofs.market.Acceptance.{counted}
use Rattle.checks.proofs.faults.accept_for_explaining.Goals as goal

pub returns-in_err-market_size_fault-clause-fault : goal.returns-in_err-market_size_fault-clause-fault
unfolding explained_faults answer_of_verdict answer_of_check
returns-in_err-market_size_fault-clause-fault c =
    let p = err_from_is_err_and c.from_residual.result c.from_residual.ensures.1 in
    rw (p.1, p.2) (sym (fault_first _ _ (sym c.in_err-market_size_fault.ensures)))

pub explained_lengths_differ-requires : goal.explained_lengths_differ-requires
unfolding counts answer_of_verdict
explained_lengths_differ-requires c =
    let k = counted _ _ (no_fault _ _ _ (sym c.in_ok-market_size_fault.ensures)).0 in
    subst (λ t. (length t.amounts ≤ max_guests) × (length t.asks ≤ max_stations)) (sym c.market.view_is) (k.0, k.2)

pub returns-then-explained_lengths_differ-clause-fault : goal.returns-then-explained_lengths_differ-clause-fault
unfolding explained_faults explained_lengths answer_of_verdict answer_of_check
returns-then-explained_lengths_differ-clause-fault c =
    sym (fault_second _ _ (sym c.in_ok-market_size_fault.ensures)
    ∙ fault_here _ (rw (← c.market.view_is)
    (sym c.explained_lengths_differ.ensures ∙ c.if-explained_lengths_differ.true)))

pub returns-in_err-value_fault-clause-fault : goal.returns-in_err-value_fault-clause-fault
unfolding explained_faults explained_lengths values answer_of_verdict answer_of_check
returns-in_err-value_fault-clause-fault c =
    let q = c.from_residual-in_err-value_fault in
    let p = err_from_is_err_and q.result q.ensures.1 in
    rw (p.1, p.2) (c.in_err-value_fault.ensures
    ∙ sym (fault_second _ _ (sym c.in_ok-market_size_fault.ensures)
    ∙ fault_later _ _ (rw (← c.market.view_is)
    (sym c.explained_lengths_differ.ensures ∙ c.if-explained_lengths_differ.false))))

pub accepted-requires : goal.accepted-requires
unfolding verdict market_faults answer_of_verdict
accepted-requires c = fault_second _ _ (sym c.in_ok-market_size_fault.ensures) ∙ sym c.in_ok-value_fault.ensures

pub returns-clause-fault : goal.returns-clause-fault
unfolding explained_faults explained_lengths values answer_of_verdict answer_of_check
returns-clause-fault c =
    c.in_ok-value_fault.ensures
    ∙ sym (fault_second _ _ (sym c.in_ok-market_size_fault.ensures)
    ∙ fault_later _ _ (rw (← c.market.view_is)
    (sym c.explained_lengths_differ.ensures ∙ c.if-explained_lengths_differ.false)))
