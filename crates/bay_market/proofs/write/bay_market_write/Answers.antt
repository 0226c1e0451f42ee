use Rattle.bay_market.proofs.Told.{told}
use Rattle.bay_market.proofs.write.bay_market_write.Goals as goal

pub returns : goal.returns
returns c = told c.write.ensures c.tell_length.ensures
