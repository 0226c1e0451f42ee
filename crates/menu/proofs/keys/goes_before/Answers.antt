use borrow.Author.Rules.{rules}
use Rattle.model.specs.Counting.{◌<?◌, ◌=?◌, ◌and◌, ◌or◌}
use Rattle.menu.specs.Keys.{rest_before}
use Rattle.menu.proofs.keys.goes_before.Goals as goal

pub returns : goal.returns
returns c = unfold rest_before ◌or◌ ◌and◌ ◌=?◌ ◌<?◌ in search rules
