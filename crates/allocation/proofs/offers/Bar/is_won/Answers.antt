use Rattle.allocation.proofs.offers.Offers.{won_is}
use Rattle.allocation.proofs.offers.Bar.is_won.Goals as goal

pub returns : goal.returns
returns c = won_is _ _ _ _ c.requires.bound_value c.to_exceed.ensures c.below.ensures
