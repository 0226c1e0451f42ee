use borrow.Author.Rules.{rules}
use Rattle.model.specs.Counting.{◌=?◌, ◌or◌, some, any}
use Rattle.checks.proofs.faults.explained_lengths_differ.Goals as goal

pub returns : goal.returns
returns c = unfold ◌or◌ ◌=?◌ some any in search rules
