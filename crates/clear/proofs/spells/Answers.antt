use mathlib.Core.Path.{◌∙◌}
use Rattle.clear.proofs.Asked.{spells_as}
use Rattle.clear.proofs.spells.Goals as goal

pub returns : goal.returns
returns c = c.eq.ensures ∙ spells_as _ _
