use Rattle.bay_market.proofs.Told.{told}
use Rattle.bay_market.proofs.marks.bay_market_clear_marked.Goals as goal

pub returns : goal.returns
returns c = told c.clear_marked-answer.ensures c.tell.ensures
