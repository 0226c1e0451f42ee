use borrow.Author.Rules.{rules}
use Rattle.model.specs.sheet.Fields.{map_width}
use Rattle.sheet.proofs.fields.map_width.Goals as goal

pub returns : goal.returns
unfolding map_width
returns c = search rules
