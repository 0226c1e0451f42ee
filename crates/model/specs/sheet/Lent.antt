-- The tables that a market is read into: their lengths, and what stands there when it is read.
use Rattle.std.specs.Prelude.{ℕ, not, List, ◌∷◌, length}
use Rattle.std.proofs.Math.Seq.{paste}
use Rattle.model.specs.Limits.{max_guests, max_stations, max_bids}
use Rattle.model.specs.Counting.{◌=?◌, ◌or◌}
use Rattle.model.specs.Verdicts.{Row, ◌gives◌}
use Rattle.model.specs.market.Market.{Tables}
use Rattle.model.specs.sheet.Content.{sheet_faults}

pub record LentTables : Type 0 where
  pub amounts : List ℕ
  pub tickets : List ℕ
  pub asks : List ℕ
  pub bays : List ℕ
  pub bids : List ℕ

abbrev pub lent_tables : (amounts tickets asks bays bids : List ℕ) → LentTables
lent_tables amounts tickets asks bays bids =
    record { amounts = amounts; tickets = tickets; asks = asks; bays = bays; bids = bids }

-- their lengths
unfoldable pub table_lengths : (amounts tickets asks bays bids : ℕ) → Row
table_lengths amounts tickets asks bays bids =
    (not (amounts =? max_guests) or not (tickets =? max_guests) or not (asks =? max_stations)
    or not (bays =? max_stations) or not (bids =? max_bids)) gives 10

-- a call of the reader looks at the lent tables first
unfoldable pub reading_faults : LentTables → (sheet : List ℕ) → List Row
reading_faults l s =
    table_lengths (length l.amounts) (length l.tickets) (length l.asks) (length l.bays) (length l.bids)
    ∷ sheet_faults s

-- the lent tables with a market over their first places
unfoldable pub filled : Tables → LentTables → LentTables
filled t l = record {
  amounts = paste l.amounts 0 t.amounts (length t.amounts);
  tickets = paste l.tickets 0 t.tickets (length t.tickets);
  asks = paste l.asks 0 t.asks (length t.asks);
  bays = paste l.bays 0 t.bays (length t.bays);
  bids = paste l.bids 0 t.bids (length t.bids);
}
