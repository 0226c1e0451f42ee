-- Two markets put together.
use Rattle.std.specs.Prelude.{◌+◌, ◌++◌, ◌≡◌, length}
use Rattle.model.specs.market.Market.{Tables}
use Rattle.model.specs.sheet.Lent.{LentTables, lent_tables}

-- the lent tables are as long as the lists of both
pub record Fits (t u : Tables) (l : LentTables) : Type 0 where
  pub asks : length l.asks ≡ length t.asks
  pub bays : length l.bays ≡ length t.bays
  pub amounts : length l.amounts ≡ length t.amounts + length u.amounts
  pub tickets : length l.tickets ≡ length t.tickets + length u.tickets
  pub bids : length l.bids ≡ length t.bids + length u.bids

-- the stations of the first, and the guests of both
abbrev pub in_one : (t u : Tables) → LentTables
in_one t u = lent_tables (t.amounts ++ u.amounts) (t.tickets ++ u.tickets) t.asks t.bays (t.bids ++ u.bids)
