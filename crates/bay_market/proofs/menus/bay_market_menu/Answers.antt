use Rattle.bay_market.proofs.Told.{replied}
use Rattle.bay_market.proofs.menus.bay_market_menu.Goals as goal

pub returns : goal.returns
returns c = replied c.price_list.ensures c.reply_number.ensures
