use Rattle.bay_market.proofs.Told.{replied}
use Rattle.bay_market.proofs.gates.bay_market_join.Goals as goal

pub returns : goal.returns
returns c = replied c.join-reply.ensures c.reply_number.ensures
