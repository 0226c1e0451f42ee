use mathlib.Core.Bool.{not}
use mathlib.Core.Path.{ap, ◌∙◌}
use Rattle.model.proofs.Loops.{either_is}
use Rattle.copies.proofs.Comparing.{differ_is}
use Rattle.join.proofs.faults.stations_differ.Goals as goal

pub returns : goal.returns
returns c =
    rw (← c.first.view_is, ← c.second.view_is) (either_is (ap not c.same.ensures ∙ differ_is _ _)
    (ap not c.same-2.ensures ∙ differ_is _ _))
