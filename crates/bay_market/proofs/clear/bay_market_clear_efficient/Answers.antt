use Rattle.model.specs.market.Outcome.{outcome_in}
use Rattle.bay_market.proofs.Told.{told}
use Rattle.bay_market.proofs.clear.bay_market_clear_efficient.Goals as goal

pub returns : goal.returns
unfolding outcome_in
returns c = told c.clear-answer.ensures c.tell.ensures
