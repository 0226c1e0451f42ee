use Rattle.model.specs.market.Market.{bid_at}
use Rattle.allocation.specs.Screens.{screened_at}
use Rattle.quiet.proofs.standing.total_at.Goals as goal

pub returns : goal.returns
unfolding screened_at bid_at
returns c = rw (← c.market.view_is) (cc)
