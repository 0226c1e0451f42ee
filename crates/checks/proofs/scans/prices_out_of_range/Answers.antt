use mathlib.Core.Path.{◌∙◌}
use Rattle.model.proofs.Loops.{either_is}
use Rattle.checks.proofs.Ranges.{any_outside_is}
use Rattle.checks.proofs.scans.prices_out_of_range.Goals as goal

pub returns : goal.returns
returns c = either_is (c.any_outside.ensures ∙ any_outside_is _ _ _) (c.any_outside-2.ensures ∙ any_outside_is _ _ _)
