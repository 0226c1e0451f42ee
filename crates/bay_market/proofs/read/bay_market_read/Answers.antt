use Rattle.model.proofs.clauses.Reads.{read_counts}
use Rattle.bay_market.proofs.Told.{told}
use Rattle.bay_market.proofs.read.bay_market_read.Goals as goal

pub tell_counts-requires : goal.tell_counts-requires
tell_counts-requires c = read_counts _ _ _ _ c.read.ensures

pub returns : goal.returns
returns c = told c.read.ensures c.tell_counts.ensures
