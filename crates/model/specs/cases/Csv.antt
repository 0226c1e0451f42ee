-- Comma-separated markets with what they come to, as one fact over each table. Document 02, request 10.
use Rattle.std.specs.Prelude.{ℕ, List, [], ◌∷◌, ◌++◌, map, ◌≡◌}
use Prim.Native.Char.{code}
use Prim.Native.String.{String, len, char_at}
use Rattle.model.specs.Counting.{list, joined}
use Rattle.model.specs.Verdicts.{accepted, refused, first_fault, number_of}
use Rattle.model.specs.market.Market.{Tables, regular}
use Rattle.model.specs.csv.Faults.{stations, csv_faults, reading_csv_faults}
use Rattle.model.specs.sheet.Lent.{lent_tables}
use Rattle.model.specs.csv.Content.{read_csv}
use Rattle.model.specs.csv.Text.{text_of}
use Rattle.model.specs.claims.Csv.{bytes_faults}
use Rattle.model.specs.cases.Cases.{table_i, pair, case_e}
use Rattle.model.specs.cases.Sheets.{market_nine}

-- the bytes of a quoted text
unfoldable pub bytes : String → List ℕ
bytes s = list (len s) (λ k. code (char_at s k))

-- a text again and again
unfoldable pub times : ℕ → String → List ℕ
times n s = joined n (λ _. bytes s)

-- the number that a text is refused with, 0 where it is read; and the number that it should be
unfoldable pub number_for : (List ℕ × ℕ) → ℕ
number_for (text, _) = number_of (first_fault (csv_faults text))

unfoldable pub expected_of : (List ℕ × ℕ) → ℕ
expected_of (_, k) = k

-- case E; no guests; values at their widths; zeros in front, and empty bids, also at a line's end
unfoldable pub csv_e : List ℕ
csv_e = bytes "2,6\r\n1,1\r\n1,3,8,\r\n2,3,8,\r\n"

-- neither is accepted by the clearing: an ask above 1,000,000, bays of 0
unfoldable pub market_widest : Tables
market_widest = regular (4_294_967_295 ∷ []) (65_535 ∷ []) (65_535 ∷ []) (4_294_967_295 ∷ []) (4_294_967_295 ∷ [])

unfoldable pub market_zeros : Tables
market_zeros = regular (0 ∷ 5 ∷ []) (1 ∷ 0 ∷ []) (7 ∷ 0 ∷ []) (0 ∷ 9 ∷ []) (0 ∷ 0 ∷ 3 ∷ 0 ∷ [])

pub record CsvMarketsRead : Type 0 where
  pub case_e_lem : read_csv csv_e ≡ accepted case_e
  pub no_guests : read_csv (bytes "2,6\r\n1,1\r\n") ≡ accepted (pair [] [])
  pub widest : read_csv (bytes "4294967295\r\n65535\r\n4294967295,65535,4294967295\r\n") ≡ accepted market_widest
  pub zeros : read_csv (bytes "0000000000,05\r\n0000000001,0\r\n0,0000000007,,\r\n0000000009,0,0000000003,0\r\n")
      ≡ accepted market_zeros

-- texts that lay markets out, and are read again
unfoldable pub laid_out_markets : List Tables
laid_out_markets = case_e ∷ table_i ∷ pair [] [] ∷ market_nine ∷ market_widest ∷ market_zeros ∷ []

pub record CsvMarketsLaidOut : Type 0 where
  pub case_e_lem : text_of case_e ≡ csv_e
  pub zeros : text_of market_zeros ≡ bytes "0,5\r\n1,0\r\n0,7,,\r\n9,0,3,\r\n"
  pub again : map (λ t. read_csv (text_of t)) laid_out_markets ≡ map accepted laid_out_markets

-- ---- refusals

-- a missing line or line end; CR alone, also at the end; LF alone; CR twice
unfoldable pub line_cases : List (List ℕ × ℕ)
line_cases =
    (bytes "", 22) ∷ (bytes "1", 22) ∷ (bytes "1\r", 22) ∷ (bytes "1\r\n", 22) ∷ (bytes "1\r\n1", 22)
    ∷ (bytes "1\r\n1\r", 22) ∷ (bytes "1\r\n1\r\n", 0) ∷ (bytes "1\r\n1\r\n1,1,1", 22) ∷ (bytes "1\r\n1\r\n1,1,1\r", 22)
    ∷ (bytes "1\r\n1\r\n1,1,\r\n", 0) ∷ (bytes "1\n1\n", 22) ∷ (bytes "1\r\n1\n", 22) ∷ (bytes "\n", 22)
    ∷ (bytes "1\r\n1\r\n\n", 22) ∷ (bytes "1\r1\r", 22) ∷ (bytes "1\r\r\n1\r\n", 22) ∷ (bytes "1\r,1\r\n1\r\n", 22)
    ∷ (bytes "1\n\r1\n\r", 22) ∷ []

-- another byte, first and last; NUL, a quote, a space, a sign, the neighbours of the digits, and bytes over 127
unfoldable pub byte_cases : List (List ℕ × ℕ)
byte_cases =
    (bytes "x", 22) ∷ (bytes "1\r\n1\r\nx", 22) ∷ (bytes "\0", 22) ∷ (bytes "1\r\n1\r\n\0", 22)
    ∷ (bytes "\"1\"\r\n1\r\n", 22) ∷ (bytes " 1\r\n1\r\n", 22) ∷ (bytes "1 \r\n1\r\n", 22) ∷ (bytes "-1\r\n1\r\n", 22)
    ∷ (bytes "/\r\n1\r\n", 22) ∷ (bytes ":\r\n1\r\n", 22) ∷ ((128 ∷ []), 22) ∷ ((255 ∷ []), 22)
    ∷ ((49 ∷ 13 ∷ 10 ∷ 49 ∷ 13 ∷ 138 ∷ []), 22) ∷ []

-- an empty field that is no bid; a comma too many; a line end too early
unfoldable pub field_cases : List (List ℕ × ℕ)
field_cases =
    (bytes "\r\n\r\n", 22) ∷ (bytes ",1\r\n1,1\r\n", 22) ∷ (bytes "1,\r\n1,1\r\n", 22) ∷ (bytes "1\r\n\r\n", 22)
    ∷ (bytes "1,1\r\n,1\r\n", 22) ∷ (bytes "1,1\r\n1,\r\n", 22) ∷ (bytes "1\r\n1\r\n\r\n", 22)
    ∷ (bytes "1\r\n1\r\n,1,1\r\n", 22) ∷ (bytes "1\r\n1\r\n1,,1\r\n", 22)
    ∷ (bytes "1\r\n1,1\r\n", 22) ∷ (bytes "1,1\r\n1\r\n", 22) ∷ (bytes "1\r\n1\r\n1\r\n", 22)
    ∷ (bytes "1\r\n1\r\n1,1\r\n", 22)
    ∷ (bytes "1\r\n1\r\n1,1,1,\r\n", 22) ∷ (bytes "1,1\r\n1,1\r\n1,1,1\r\n", 22) ∷ (bytes "1,1\r\n1,1\r\n1,1,\r\n", 22)
    ∷ (bytes "1,1\r\n1,1\r\n1,1,,,\r\n", 22) ∷ (bytes "1,1\r\n1,1\r\n1,1,,\r\n", 0) ∷ []

-- more than ten digits, or a value too large, at the field's end, whatever ends it
unfoldable pub size_cases : List (List ℕ × ℕ)
size_cases =
    (bytes "00000000000\r\n1\r\n", 23) ∷ (bytes "4294967296\r\n1\r\n", 23) ∷ (bytes "9999999999\r\n1\r\n", 23)
    ∷ (bytes "1,4294967296\r\n1,1\r\n", 23) ∷ (bytes "1\r\n65536\r\n", 23) ∷ (bytes "1,1\r\n65536,1\r\n", 23)
    ∷ (bytes "1\r\n1\r\n4294967296,1,1\r\n", 23) ∷ (bytes "1\r\n1\r\n1,65536,1\r\n", 23)
    ∷ (bytes "1\r\n1\r\n1,1,4294967296\r\n", 23)
    ∷ (bytes "1\r\n1\r\n1,1,00000000000\r\n", 23)
    ∷ (bytes "00000000000", 23) ∷ (bytes "00000000000x", 23) ∷ (bytes "00000000000\n", 23)
    ∷ (bytes "1\r\n1\r\n1,1,4294967296", 23)
    ∷ (bytes "1\r\n65536,1\r\n", 23) ∷ (bytes "1,1\r\n65536\r\n", 23) ∷ (bytes "1\r\n1\r\n65536,65536", 23)
    ∷ (bytes "1x00000000000", 22) ∷ (bytes "x00000000000", 22) ∷ (bytes "1\r00000000000,", 22) ∷ []

-- 39 asks and what follows: 40 and 41 of them; 23 and 22 at the comma after the 40th; a comma after its CR
unfoldable pub station_cases : List (List ℕ × ℕ)
station_cases =
    (times 39 "1," ++ (bytes "1\r\n" ++ (times 39 "1," ++ bytes "1\r\n")), 0)
    ∷ (times 39 "1," ++ bytes "1,1\r\n", 2) ∷ (times 39 "1," ++ bytes "1,", 2)
    ∷ (times 39 "1," ++ bytes ",", 2) ∷ (times 39 "1," ++ bytes "4294967296,", 23)
    ∷ (times 39 "1," ++ bytes "00000000000,", 23)
    ∷ (times 39 "1," ++ bytes "1x", 22) ∷ (times 39 "1," ++ bytes "1\r,", 22) ∷ (times 39 "1," ++ bytes "x,", 22)
    ∷ (times 39 "1," ++ (bytes "1\r\n" ++ (times 39 "1," ++ bytes "1,1\r\n")), 22) ∷ []

-- 200 guests and what follows: nothing, an empty line, a letter, a digit, LF, a comma; the last line with no LF
unfoldable pub many_guests : List ℕ
many_guests = bytes "1\r\n1\r\n" ++ times 200 "1,1,\r\n"

unfoldable pub guest_cases : List (List ℕ × ℕ)
guest_cases =
    (many_guests, 0) ∷ (many_guests ++ bytes "\r\n", 2) ∷ (many_guests ++ bytes "x", 2) ∷ (many_guests ++ bytes "1", 2)
    ∷ (many_guests ++ bytes "\n", 2) ∷ (many_guests ++ bytes ",", 2) ∷ (many_guests ++ bytes "\0", 2)
    ∷ (bytes "1\r\n1\r\n" ++ (times 199 "1,1,\r\n" ++ bytes "1,1,\rx"), 22) ∷ []

-- 10 before everything: no lent tables at all, and no text, one that has another fault, one that states a market
abbrev pub CsvLengthsRefused : Type 0
CsvLengthsRefused =
    map (λ text. first_fault (reading_csv_faults (lent_tables [] [] [] [] []) text))
    (bytes "" ∷ bytes "00000000000" ∷ csv_e ∷ [])
    ≡ (refused 10 ∷ refused 10 ∷ refused 10 ∷ [])

-- the first bytes of a text, with a fault among them
abbrev pub CsvFirstBytesRefused : Type 0
CsvFirstBytesRefused = first_fault (bytes_faults (stations (bytes "1,x1\r\n")) [] (bytes "1,x")) ≡ refused 22

abbrev pub AllAsExpected : List (List ℕ × ℕ) → Type 0
AllAsExpected cases = map number_for cases ≡ map expected_of cases

pub record CsvRefused : Type 0 where
  pub lines : AllAsExpected line_cases
  pub other_bytes : AllAsExpected byte_cases
  pub fields : AllAsExpected field_cases
  pub sizes : AllAsExpected size_cases
  pub stations : AllAsExpected station_cases
  pub guests : AllAsExpected guest_cases
  pub lengths : CsvLengthsRefused
  pub first_bytes : CsvFirstBytesRefused
