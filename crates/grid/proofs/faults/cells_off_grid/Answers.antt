use mathlib.Core.Path.{◌∙◌}
use Rattle.model.proofs.Loops.{either_is}
use Rattle.checks.proofs.Ranges.{any_outside_is}
use Rattle.grid.proofs.faults.cells_off_grid.Goals as goal

pub returns : goal.returns
returns c =
    rw (← c.places.view_is)
    (either_is (either_is (either_is (c.any_outside.ensures ∙ any_outside_is _ _ _)
    (c.any_outside-2.ensures ∙ any_outside_is _ _ _)) (c.any_outside-3.ensures ∙ any_outside_is _ _ _))
    (c.any_outside-4.ensures ∙ any_outside_is _ _ _))
