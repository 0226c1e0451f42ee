use mathlib.Core.Path.{sym, ◌∙◌}
use native.Mathlib.Omega.{arith}
use Rattle.model.specs.Counting as counting
use Rattle.model.specs.market.Faults.{counts, lengths}
use Rattle.model.proofs.Verdicts.{fault_none, fault_here, fault_later}
use Rattle.model.proofs.market.Acceptance.{counted, product_fits}
use Rattle.model.specs.Numbers.{answer_of_verdict}
use Rattle.checks.proofs.faults.size_fault.Goals as goal

pub returns-then-counts_out_of_range : goal.returns-then-counts_out_of_range
unfolding counts answer_of_verdict
returns-then-counts_out_of_range c =
    sym (fault_here _ (sym c.counts_out_of_range.ensures ∙ c.if-counts_out_of_range.true))

pub overflow_mul-differ : goal.overflow_mul-differ
overflow_mul-differ c =
    let k = counted _ _ (sym c.counts_out_of_range.ensures ∙ c.if-counts_out_of_range.false) in
    omega (arith, product_fits _ _ k.0 k.2)

pub returns-then-differ : goal.returns-then-differ
unfolding counts lengths answer_of_verdict counting.◌or◌ counting.◌=?◌
returns-then-differ c =
    sym (fault_later _ _ (sym c.counts_out_of_range.ensures ∙ c.if-counts_out_of_range.false)
    ∙ fault_here _ c.if-differ.true)

pub returns : goal.returns
unfolding counts lengths answer_of_verdict counting.◌or◌ counting.◌=?◌
returns c =
    sym (fault_later _ _ (sym c.counts_out_of_range.ensures ∙ c.if-counts_out_of_range.false)
    ∙ fault_later _ _ c.if-differ.false ∙ fault_none)
