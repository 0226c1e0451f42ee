use mathlib.Core.Path.{refl, ◌∙◌}
use Rattle.model.specs.Numbers.{answer_of_marking}
use Rattle.model.specs.Verdicts.{number_of}
use Rattle.bay_market.proofs.Told.{byte_of}
use Rattle.bay_market.proofs.marks.tell_mark.Goals as goal

pub returns-in-Ok : goal.returns-in-Ok
unfolding answer_of_marking number_of
returns-in-Ok c = rw c.in-Ok.is (record { number_is = refl; out_is = c.from-in-Ok.ensures ∙ byte_of _ })
