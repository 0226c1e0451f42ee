use borrow.Author.Rules.{rules}
use Rattle.model.specs.Counting.{◌=?◌, ◌or◌}
use Rattle.join.proofs.faults.lengths_differ.Goals as goal

pub returns : goal.returns
returns c = unfold ◌or◌ ◌=?◌ in search rules
