use Rattle.bay_market.proofs.Told.{replied}
use Rattle.bay_market.proofs.places.bay_market_place_bids.Goals as goal

pub returns : goal.returns
returns c = replied c.place_bids.ensures c.reply_number.ensures
