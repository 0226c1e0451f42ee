-- What the functions of the filling pass promise. Nothing that `sheet::read` promises depends on this file.
use Rattle.std.specs.Prelude.{ℕ, ◌+◌, ◌*◌, List, ◌≡◌}
use Rattle.model.specs.Counting.{count, list, joined}
use Rattle.model.specs.sheet.Fields.{little_endian, has_bit}
use Rattle.model.specs.sheet.Rows.{ask_of, bays_of, amount_of, ticket_of, bid_by, bid_of}
use Rattle.sheet.specs.Taken.{Moved}
use Rattle.sheet.specs.declared.fields.Cursor.{Cursor}

-- the asks and bays of m stations
pub record StationsFilled (from : Cursor) (m : ℕ) (asks bays : List ℕ) (to : Cursor) : Type 0 where
  pub moved : Moved from (6 * m) to
  pub asks_are : asks ≡ list m (ask_of from.sheet.now)
  pub bays_are : bays ≡ list m (bays_of from.sheet.now)

-- a row of m bids that follow each other
pub record AllFilled (from : Cursor) (m : ℕ) (row : List ℕ) (to : Cursor) : Type 0 where
  pub moved : Moved from (4 * m) to
  pub row_is : row ≡ list m (λ j. little_endian from.sheet.now (from.at + 4 * j) 4)

-- a row of m bids with this map
pub record RowFilled (from : Cursor) (map m : ℕ) (row : List ℕ) (to : Cursor) : Type 0 where
  pub moved : Moved from (4 * count m (has_bit map)) to
  pub row_is : row ≡ list m (bid_by from.sheet.now map from.at)

-- the rows of n guests
pub record RowsFilled (s : List ℕ) (n m : ℕ) (amounts tickets bids : List ℕ) : Type 0 where
  pub amounts_are : amounts ≡ list n (amount_of s m)
  pub tickets_are : tickets ≡ list n (ticket_of s m)
  pub bids_are : bids ≡ joined n (λ i. list m (bid_of s m i))
