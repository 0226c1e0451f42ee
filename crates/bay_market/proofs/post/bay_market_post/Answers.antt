use Rattle.bay_market.proofs.Told.{replied}
use Rattle.bay_market.proofs.post.bay_market_post.Goals as goal

pub returns : goal.returns
returns c = replied c.post-reply.ensures c.reply_number.ensures
