use Rattle.bay_market.proofs.Told.{replied}
use Rattle.bay_market.proofs.menus.bay_market_gains.Goals as goal

pub returns : goal.returns
returns c = replied c.gains.ensures c.reply_number.ensures
