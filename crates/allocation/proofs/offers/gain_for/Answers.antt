use mathlib.Core.Path.{◌∙◌}
use Rattle.allocation.proofs.offers.Offers.{gain_won, gain_lost}
use Rattle.allocation.proofs.offers.gain_for.Goals as goal

pub returns-then-won : goal.returns-then-won
returns-then-won c = c.add.ensures ∙ gain_won _ _ _ _ c.if-won.true c.sub.ensures

pub returns-else-won : goal.returns-else-won
returns-else-won c = gain_lost _ _ _ c.if-won.false
