use borrow.Author.Rules.{rules}
use Rattle.model.specs.Counting.{◌<?◌, ◌=?◌, ◌or◌}
use Rattle.checks.proofs.faults.no_such_guest.Goals as goal

pub returns : goal.returns
returns c = unfold ◌or◌ ◌=?◌ ◌<?◌ in search rules
