use mathlib.Core.Path.{sym, ◌∙◌}
use Rattle.model.specs.Counting as counting
use Rattle.model.specs.sheet.Lent.{table_lengths}
use Rattle.model.proofs.Verdicts.{fault_none, fault_here, fault_later}
use Rattle.model.specs.Numbers.{answer_of_verdict}
use Rattle.checks.proofs.faults.read_lengths_fault.Goals as goal

pub returns-then-differ : goal.returns-then-differ
unfolding table_lengths answer_of_verdict counting.◌or◌ counting.◌=?◌
returns-then-differ c = sym (fault_here _ c.if-differ.true)

pub returns : goal.returns
unfolding table_lengths answer_of_verdict counting.◌or◌ counting.◌=?◌
returns c = sym (fault_later _ _ c.if-differ.false ∙ fault_none)
