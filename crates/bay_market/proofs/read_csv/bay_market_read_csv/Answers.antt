use Rattle.model.proofs.clauses.ReadsCsv.{read_csv_counts}
use Rattle.bay_market.proofs.Told.{told}
use Rattle.bay_market.proofs.read_csv.bay_market_read_csv.Goals as goal

pub tell_counts-requires : goal.tell_counts-requires
tell_counts-requires c = read_csv_counts _ _ _ _ c.read_csv.ensures

pub returns : goal.returns
returns c = told c.read_csv.ensures c.tell_counts.ensures
