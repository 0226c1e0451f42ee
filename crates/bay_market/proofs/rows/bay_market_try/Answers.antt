use Rattle.bay_market.proofs.Told.{told}
use Rattle.bay_market.proofs.rows.bay_market_try.Goals as goal

pub returns : goal.returns
returns c = told c.try_row-answer.ensures c.tell_gains.ensures
