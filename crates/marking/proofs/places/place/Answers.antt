use mathlib.Core.Path.{◌∙◌}
use Rattle.model.proofs.Compared.{lt_is}
use Rattle.marking.proofs.places.Places.{place_is}
use Rattle.marking.proofs.places.place.Goals as goal

pub returns : goal.returns
returns c =
    place_is _ _ _ _ _ _ c.from-2.ensures (rw c.from.ensures at c.times-total.ensures) c.holds-wins.ensures
    (c.lt-below.ensures ∙ lt_is _ _)
