-- Sheets with what they come to, and markets with their sheets, as one fact over each table. Document 01, cases A, E
-- and I; document 02, request 8.
use Rattle.std.specs.Prelude.{ℕ, ◌+◌, not, List, [], ◌∷◌, ◌++◌, map, ◌≡◌, length, take}
use Rattle.model.specs.Counting.{◌=?◌, only, joined}
use Rattle.model.specs.market.Market.{Tables}
use Rattle.model.specs.cases.Cases.{table_i, pair, case_e, single}
use Rattle.model.specs.Verdicts.{Row, accepted, refused, first_fault}
use Rattle.model.specs.sheet.Content.{sheet_faults, read_sheet}
use Rattle.model.specs.sheet.Shortest.{shortest, writing_faults}
use Rattle.model.specs.sheet.Lent.{lent_tables, table_lengths, reading_faults}

-- Table I
unfoldable pub sheet_a : List ℕ
sheet_a = 5 ∷ 0 ∷ 5 ∷ 0
    ∷ 4 ∷ 0 ∷ 0 ∷ 0 ∷ 1 ∷ 0 ∷ 1 ∷ 0 ∷ 0 ∷ 0 ∷ 2 ∷ 0 ∷ 3 ∷ 0 ∷ 0 ∷ 0 ∷ 4 ∷ 0 ∷ 2 ∷ 0 ∷ 0 ∷ 0 ∷ 2
    ∷ 0 ∷ 5 ∷ 0 ∷ 0 ∷ 0 ∷ 3 ∷ 0
    ∷ 5 ∷ 0 ∷ 1 ∷ 0 ∷ 0 ∷ 0 ∷ 26 ∷ 4 ∷ 0 ∷ 0 ∷ 0 ∷ 5 ∷ 0 ∷ 0 ∷ 0 ∷ 2 ∷ 0 ∷ 0 ∷ 0
    ∷ 2 ∷ 0 ∷ 2 ∷ 0 ∷ 0 ∷ 0 ∷ 13 ∷ 2 ∷ 0 ∷ 0 ∷ 0 ∷ 5 ∷ 0 ∷ 0 ∷ 0 ∷ 1 ∷ 0 ∷ 0 ∷ 0
    ∷ 6 ∷ 0 ∷ 3 ∷ 0 ∷ 0 ∷ 0 ∷ 11 ∷ 7 ∷ 0 ∷ 0 ∷ 0 ∷ 5 ∷ 0 ∷ 0 ∷ 0 ∷ 4 ∷ 0 ∷ 0 ∷ 0
    ∷ 4 ∷ 0 ∷ 4 ∷ 0 ∷ 0 ∷ 0 ∷ 11 ∷ 6 ∷ 0 ∷ 0 ∷ 0 ∷ 4 ∷ 0 ∷ 0 ∷ 0 ∷ 3 ∷ 0 ∷ 0 ∷ 0
    ∷ 3 ∷ 0 ∷ 5 ∷ 0 ∷ 0 ∷ 0 ∷ 28 ∷ 2 ∷ 0 ∷ 0 ∷ 0 ∷ 3 ∷ 0 ∷ 0 ∷ 0 ∷ 5 ∷ 0 ∷ 0 ∷ 0 ∷ []

-- E, as document 01 prints it, with tickets 1 and 2
unfoldable pub sheet_e : List ℕ
sheet_e = 2 ∷ 0 ∷ 2 ∷ 0 ∷ 2 ∷ 0 ∷ 0 ∷ 0 ∷ 1 ∷ 0 ∷ 6 ∷ 0 ∷ 0 ∷ 0 ∷ 1 ∷ 0
    ∷ 3 ∷ 0 ∷ 1 ∷ 0 ∷ 0 ∷ 0 ∷ 1 ∷ 8 ∷ 0 ∷ 0 ∷ 0
    ∷ 3 ∷ 0 ∷ 2 ∷ 0 ∷ 0 ∷ 0 ∷ 1 ∷ 8 ∷ 0 ∷ 0 ∷ 0 ∷ []

-- E again, with station 2's bit set in the last row and a bid of 0 there: refused
unfoldable pub sheet_e0 : List ℕ
sheet_e0 = take 33 sheet_e ++ (3 ∷ 8 ∷ 0 ∷ 0 ∷ 0 ∷ 0 ∷ 0 ∷ 0 ∷ 0 ∷ [])

-- I: no guests
unfoldable pub sheet_i : List ℕ
sheet_i = 0 ∷ 0 ∷ 2 ∷ 0 ∷ 2 ∷ 0 ∷ 0 ∷ 0 ∷ 1 ∷ 0 ∷ 6 ∷ 0 ∷ 0 ∷ 0 ∷ 1 ∷ 0 ∷ []

-- nine stations, so a map of two bytes, and a bid at the ninth alone
unfoldable pub sheet_nine : List ℕ
sheet_nine = 1 ∷ 0 ∷ 9 ∷ 0
    ∷ 1 ∷ 0 ∷ 0 ∷ 0 ∷ 1 ∷ 0 ∷ 1 ∷ 0 ∷ 0 ∷ 0 ∷ 1 ∷ 0 ∷ 1 ∷ 0 ∷ 0 ∷ 0 ∷ 1 ∷ 0 ∷ 1 ∷ 0 ∷ 0 ∷ 0 ∷ 1 ∷ 0 ∷ 1 ∷ 0 ∷ 0 ∷ 0 ∷ 1
    ∷ 0 ∷ 1 ∷ 0 ∷ 0 ∷ 0 ∷ 1 ∷ 0 ∷ 1 ∷ 0 ∷ 0 ∷ 0 ∷ 1 ∷ 0 ∷ 1 ∷ 0 ∷ 0 ∷ 0 ∷ 1 ∷ 0 ∷ 1 ∷ 0 ∷ 0 ∷ 0 ∷ 1 ∷ 0
    ∷ 7 ∷ 1 ∷ 4 ∷ 3 ∷ 2 ∷ 1 ∷ 0 ∷ 1 ∷ 1 ∷ 2 ∷ 3 ∷ 4 ∷ []

unfoldable pub market_nine : Tables
market_nine = record {
  asks = 1 ∷ 1 ∷ 1 ∷ 1 ∷ 1 ∷ 1 ∷ 1 ∷ 1 ∷ 1 ∷ [];
  bays = 1 ∷ 1 ∷ 1 ∷ 1 ∷ 1 ∷ 1 ∷ 1 ∷ 1 ∷ 1 ∷ [];
  amounts = 263 ∷ [];
  tickets = 16_909_060 ∷ [];
  bids = 0 ∷ 0 ∷ 0 ∷ 0 ∷ 0 ∷ 0 ∷ 0 ∷ 0 ∷ 67_305_985 ∷ [];
  width = 9;
}

abbrev pub MarketsRead : Type 0
MarketsRead = map read_sheet (sheet_a ∷ sheet_e ∷ sheet_i ∷ sheet_nine ∷ [])
    ≡ (accepted table_i ∷ accepted case_e ∷ accepted (pair [] []) ∷ accepted market_nine ∷ [])

-- E cut short anywhere
abbrev pub TruncationsRefused : Type 0
TruncationsRefused =
    joined (length sheet_e) (λ k. read_sheet (take k sheet_e) ∷ []) ≡ joined 38 (λ k. refused 1 ∷ [])

-- 201 guests, no station, 41 stations, each with nothing after the header; a bit beyond station 2 with no bid
-- after the map; a byte more
abbrev pub FaultsRefused : Type 0
FaultsRefused = map read_sheet (
    (201 ∷ 0 ∷ 1 ∷ 0 ∷ []) ∷ (0 ∷ 0 ∷ 0 ∷ 0 ∷ []) ∷ (0 ∷ 0 ∷ 41 ∷ 0 ∷ [])
    ∷ (take 22 sheet_e ++ (4 ∷ [])) ∷ (sheet_e ++ (0 ∷ [])) ∷ [])
    ≡ (refused 2 ∷ refused 2 ∷ refused 2 ∷ refused 3 ∷ refused 4 ∷ [])

-- E with these maps and bids in its two rows
unfoldable pub rows_e : (first second : List ℕ) → List ℕ
rows_e first second = take 22 sheet_e ++ (first ++ (3 ∷ 0 ∷ 2 ∷ 0 ∷ 0 ∷ 0 ∷ second))

unfoldable pub both_bids : (x y : ℕ) → List ℕ
both_bids x y = 3 ∷ x ∷ 0 ∷ 0 ∷ 0 ∷ y ∷ 0 ∷ 0 ∷ 0 ∷ []

-- a bid of 0 with a set bit: none; the first and the last of row 1, and of row 2; beside a clear bit
abbrev pub EmptyBidsRefused : Type 0
EmptyBidsRefused = map read_sheet (
    rows_e (both_bids 8 8) (both_bids 8 8)
    ∷ rows_e (both_bids 0 8) (both_bids 8 8) ∷ rows_e (both_bids 8 0) (both_bids 8 8)
    ∷ rows_e (both_bids 8 8) (both_bids 0 8) ∷ rows_e (both_bids 8 8) (both_bids 8 0)
    ∷ rows_e (1 ∷ 0 ∷ 0 ∷ 0 ∷ 0 ∷ []) (both_bids 8 8) ∷ sheet_e0 ∷ [])
    ≡ (accepted (pair (3 ∷ 3 ∷ []) (8 ∷ 8 ∷ 8 ∷ 8 ∷ []))
    ∷ refused 19 ∷ refused 19 ∷ refused 19 ∷ refused 19 ∷ refused 19 ∷ refused 19 ∷ [])

-- before it goes the sheet's end inside it, anywhere, and a stray bit of its row; after it the sheet's end inside the
-- next bid, inside the next row's amount, a stray bit of the next row, a byte more
abbrev pub EmptyBidsInTurn : Type 0
EmptyBidsInTurn =
    (joined 4 (λ k. read_sheet (take (23 + k) (rows_e (both_bids 0 8) [])) ∷ []) ≡ joined 4 (λ k. refused 1 ∷ []))
    × (joined 4 (λ k. read_sheet (take (42 + k) (rows_e (both_bids 8 8) (both_bids 8 0))) ∷ [])
    ≡ joined 4 (λ k. refused 1 ∷ []))
    × (map read_sheet (
    rows_e (7 ∷ 0 ∷ 0 ∷ 0 ∷ 0 ∷ []) []
    ∷ take 27 (rows_e (both_bids 0 8) []) ∷ take 30 (rows_e (both_bids 0 8) []) ∷ take 32 (rows_e (both_bids 0 8) [])
    ∷ rows_e (both_bids 8 0) (4 ∷ []) ∷ (rows_e (both_bids 8 8) (both_bids 8 0) ++ (0 ∷ [])) ∷ [])
    ≡ (refused 3 ∷ refused 19 ∷ refused 19 ∷ refused 19 ∷ refused 19 ∷ refused 19 ∷ []))

-- one guest and forty stations: a row of forty bids, of which number k is 0
unfoldable pub sheet_forty : (k : ℕ) → List ℕ
sheet_forty k = (1 ∷ 0 ∷ 40 ∷ 0 ∷ [])
    ++ (joined 40 (λ _. 1 ∷ 0 ∷ 0 ∷ 0 ∷ 1 ∷ 0 ∷ [])
    ++ ((3 ∷ 0 ∷ 1 ∷ 0 ∷ 0 ∷ 0 ∷ 255 ∷ 255 ∷ 255 ∷ 255 ∷ 255 ∷ [])
    ++ joined 40 (λ j. only (not (j =? k)) 8 ∷ 0 ∷ 0 ∷ 0 ∷ [])))

-- each of them in turn, and none
abbrev pub EmptyBidOfFortyRefused : Type 0
EmptyBidOfFortyRefused =
    joined 41 (λ k. first_fault (sheet_faults (sheet_forty k)) ∷ [])
    ≡ joined 40 (λ _. refused 19 ∷ []) ++ (accepted tt ∷ [])

-- no lent table at all, and no sheet; then each table in turn, too short or too long
abbrev pub LengthsRefused : Type 0
LengthsRefused = (first_fault (reading_faults (lent_tables [] [] [] [] []) []) ≡ refused 10)
    × (map (λ (r : Row). first_fault (r ∷ [])) (
    table_lengths 200 200 40 40 8000 ∷ table_lengths 199 200 40 40 8000 ∷ table_lengths 200 201 40 40 8000
    ∷ table_lengths 200 200 41 40 8000 ∷ table_lengths 200 200 40 39 8000 ∷ table_lengths 200 200 40 40 8001 ∷ [])
    ≡ (accepted tt ∷ refused 10 ∷ refused 10 ∷ refused 10 ∷ refused 10 ∷ refused 10 ∷ []))

-- the shortest sheets of these markets, with no field for the bid of 0
abbrev pub MarketsWritten : Type 0
MarketsWritten =
    map shortest (table_i ∷ case_e ∷ pair [] [] ∷ market_nine ∷ []) ≡ (sheet_a ∷ sheet_e ∷ sheet_i ∷ sheet_nine ∷ [])

-- an output as long as the sheet, and one byte less; the market's own faults go first
abbrev pub WritingsJudged : Type 0
WritingsJudged =
    map first_fault (
    writing_faults case_e 38 ∷ writing_faults case_e 37 ∷ writing_faults (single 1 1 1 1_000_001) 0
    ∷ writing_faults (record { asks = []; bays = []; amounts = []; tickets = []; bids = []; width = 0 }) 0 ∷ [])
    ≡ (accepted tt ∷ refused 14 ∷ refused 9 ∷ refused 2 ∷ [])
