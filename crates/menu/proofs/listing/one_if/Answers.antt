use mathlib.Core.Bool.{Bool, true, false}
use mathlib.Core.Path.{◌≡◌, refl, ◌∙◌}
use Rattle.std.specs.Int.{from_bool}
use Rattle.model.specs.Counting.{only}
use Rattle.menu.proofs.listing.one_if.Goals as goal

one_is : (b : Bool) → from_bool b ≡ only b 1
unfolding only
one_is true = refl
one_is false = refl

pub returns : goal.returns
returns c = c.from.ensures ∙ one_is c.args.loses
