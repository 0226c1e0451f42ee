use mathlib.Core.Path.{refl, sym, ◌∙◌}
use Rattle.allocation.specs.Offers.{picked}
use Rattle.allocation.proofs.offers.pick.Goals as goal

pub returns-then-below : goal.returns-then-below
unfolding picked
returns-then-below c = rw (sym c.below.ensures ∙ c.if-below.true) refl

pub returns-else-below : goal.returns-else-below
unfolding picked
returns-else-below c = rw (sym c.below.ensures ∙ c.if-below.false) refl
