use Rattle.bay_market.proofs.Told.{told}
use Rattle.bay_market.proofs.marks.bay_market_mark.Goals as goal

pub returns : goal.returns
returns c = told c.mark.ensures c.tell_mark.ensures
