-- What a sheet comes to: its market, or its first fault. Document 01, 'The sheet' and the reader's rows
-- of 'Refusals by place'.
-- A sheet is a list of bytes. What its fields and its rows hold is in Fields.antt and Rows.antt; a byte past the end
-- counts as 0, which no accepted sheet shows.
-- Guests and stations count from 0 here.
use Rattle.std.specs.Prelude.{ℕ, List, [], ◌∷◌, ◌++◌, length}
use Rattle.model.specs.Counting.{◌<?◌, list, joined}
use Rattle.model.specs.market.Faults.{counts}
use Rattle.model.specs.market.Market.{Tables}
use Rattle.model.specs.Verdicts.{Answer, Row, ◌gives◌, first_fault, giving}
use Rattle.model.specs.sheet.Fields.{little_endian}
use Rattle.model.specs.sheet.Rows.{row_at, ask_of, bays_of, amount_of, ticket_of, bid_of, rows_faults}

-- ---- the header, and the market

-- the header
unfoldable pub guests : List ℕ → ℕ
guests s = little_endian s 0 2

unfoldable pub stations : List ℕ → ℕ
stations s = little_endian s 2 2

-- the market that the fields state
unfoldable pub tables_of : List ℕ → Tables
tables_of s = record {
  asks = list (stations s) (ask_of s);
  bays = list (stations s) (bays_of s);
  amounts = list (guests s) (amount_of s (stations s));
  tickets = list (guests s) (ticket_of s (stations s));
  bids = joined (guests s) (λ i. list (stations s) (bid_of s (stations s) i));
  width = stations s;
}

-- ---- faults, in the order of the table. Fields with no other fault between them share a row: those of the stations

unfoldable pub sheet_faults : List ℕ → List Row
sheet_faults s =
    (length s <? 4 gives 1)
    ∷ counts (guests s) (stations s)
    ∷ (length s <? row_at s (stations s) 0 gives 1)
    ∷ (rows_faults s (stations s) (guests s)
    ++ ((row_at s (stations s) (guests s) <? length s gives 4) ∷ []))

-- ---- the reading

-- what a sheet comes to
unfoldable pub read_sheet : List ℕ → Answer Tables
read_sheet s = giving (first_fault (sheet_faults s)) (tables_of s)
