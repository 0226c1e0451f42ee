use mathlib.Core.Path.{refl}
use Rattle.model.specs.Counting.{◌=?◌}
use Rattle.model.proofs.Loops.{either_is}
use Rattle.grid.proofs.faults.lengths_differ.Goals as goal

pub returns : goal.returns
unfolding ◌=?◌
returns c =
    rw (← c.places.view_is) (either_is (either_is (either_is (either_is refl refl) refl) refl) refl)
