-- What is copied once a text is known to be good. Nothing that `market_csv::read_csv` promises depends on this file.
use Rattle.std.specs.Prelude.{ℕ, ◌*◌, ◌≤◌, length}
use Rattle.std.proofs.Math.Seq.{paste}
use Rattle.model.specs.sheet.Lent.{LentTables, lent_tables}
use Rattle.market_csv.specs.declared.own.OwnTables.{OwnTables}

-- n guests and m stations fit five tables
pub record Fits (n m : ℕ) (t : LentTables) : Type 0 where
  pub amounts_fit : n ≤ length t.amounts
  pub tickets_fit : n ≤ length t.tickets
  pub asks_fit : m ≤ length t.asks
  pub bays_fit : m ≤ length t.bays
  pub bids_fit : n * m ≤ length t.bids

abbrev pub lists_of : OwnTables → LentTables
lists_of own = lent_tables own.amounts own.tickets own.asks own.bays own.bids

-- five tables over the first places of five others
unfoldable pub copied : (n m : ℕ) (own : OwnTables) (entry : LentTables) → LentTables
copied n m own entry = record {
  amounts = paste entry.amounts 0 own.amounts n;
  tickets = paste entry.tickets 0 own.tickets n;
  asks = paste entry.asks 0 own.asks m;
  bays = paste entry.bays 0 own.bays m;
  bids = paste entry.bids 0 own.bids (n * m);
}
