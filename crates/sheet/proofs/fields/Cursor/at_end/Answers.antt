use borrow.Author.Rules.{rules}
use Rattle.model.specs.Counting.{◌≤?◌}
use Rattle.sheet.proofs.fields.Cursor.at_end.Goals as goal

pub returns : goal.returns
unfolding ◌≤?◌
returns c = search rules
