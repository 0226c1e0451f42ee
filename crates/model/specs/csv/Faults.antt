-- The faults of a comma-separated market, place by place. Document 02, request 10.
-- For each place, the end included, rows in the order 23, 2, 22; what a row needs of the text before the place is
-- counted there (Places.antt), and of the text the number of stations.
use Rattle.std.specs.Prelude.{ℕ, ◌+◌, Bool, true, false, not, List, [], ◌∷◌, ◌++◌, length}
use Rattle.model.specs.Limits.{max_guests, max_stations}
use Rattle.model.specs.Counting.{◌<?◌, ◌=?◌, ◌and◌, ◌or◌, only}
use Rattle.model.specs.Verdicts.{Row, ◌gives◌}
use Rattle.model.specs.sheet.Lent.{LentTables, table_lengths}
use Rattle.model.specs.csv.Places.{comma, cr, lf, is_digit, line_of, field_of, digits_of, value_of, after_cr}
use Rattle.model.specs.csv.Places.{starts_line}

-- m: the fields of the first line, one more than its commas
unfoldable pub first_fields : Bool → ℕ → ℕ
first_fields true rest = 1
first_fields false rest = rest

unfoldable pub stations : List ℕ → ℕ
stations [] = 1
stations (b ∷ text) = first_fields (b =? cr) (only (b =? comma) 1 + stations text)

-- the fields that a line must have: m bays; a ticket, an amount and m bids. 0 for the first line: any number will do
unfoldable pub fields_of : (m line : ℕ) → ℕ
fields_of m line = only (0 <? line) m + only (1 <? line) 2

-- a bid, which may be empty
unfoldable pub is_bid : (line field : ℕ) → Bool
is_bid line field = 1 <? line and 1 <? field

-- the largest value of a field's table: bays and amounts are 16 bits wide, asks, tickets and bids 32
unfoldable pub is_narrow : (line field : ℕ) → Bool
is_narrow line field = line =? 1 or (1 <? line and field =? 1)

unfoldable pub most_by : Bool → ℕ
most_by true = 65_535
most_by false = 4_294_967_295

unfoldable pub most : (line field : ℕ) → ℕ
most line field = most_by (is_narrow line field)

-- ---- the rows of a place

-- 23: a field that ends here has more than ten digits, or a value too large for its table's width
unfoldable pub too_large : List ℕ → Bool
too_large past = 10 <? digits_of past or most (line_of past) (field_of past) <? value_of past

-- 2: the comma that ends the 40th ask; the first byte of guest line 201
unfoldable pub too_many : List ℕ → ℕ → Bool
too_many past b =
    (b =? comma and not (after_cr past) and line_of past =? 0 and field_of past + 1 =? max_stations)
    or (starts_line past and line_of past =? 2 + max_guests)

-- 22: a field that ends here is empty and no bid
unfoldable pub is_missing : List ℕ → Bool
is_missing past = digits_of past =? 0 and not (is_bid (line_of past) (field_of past))

-- 22: no digit, comma, CR or LF; another byte than LF after CR; LF with no CR before; a comma or CR that ends an empty
-- field; a comma that is one too many; a CR that comes too early
unfoldable pub misplaced : (m : ℕ) → List ℕ → ℕ → Bool
misplaced m past b =
    not (is_digit b or b =? comma or b =? cr or b =? lf)
    or (after_cr past and not (b =? lf))
    or (b =? lf and not (after_cr past))
    or ((b =? comma or b =? cr) and is_missing past)
    or (b =? comma and field_of past + 1 =? fields_of m (line_of past))
    or (b =? cr and field_of past + 1 <? fields_of m (line_of past))

-- at a byte. Every byte but a digit ends a field, if one is there: after CR there are no digits
unfoldable pub byte_faults : (m : ℕ) → List ℕ → ℕ → List Row
byte_faults m past b =
    (not (is_digit b) and too_large past gives 23)
    ∷ (too_many past b gives 2)
    ∷ (misplaced m past b gives 22)
    ∷ []

-- at the end, which may only be where a line would start, after the asks and the bays
unfoldable pub end_faults : List ℕ → List Row
end_faults past =
    (too_large past gives 23)
    ∷ (not (starts_line past and 1 <? line_of past) gives 22)
    ∷ []

-- ---- all places, one after the other

unfoldable pub faults_from : (m : ℕ) (past rest : List ℕ) → List Row
faults_from m past [] = end_faults past
faults_from m past (b ∷ rest) = byte_faults m past b ++ faults_from m (b ∷ past) rest

unfoldable pub csv_faults : List ℕ → List Row
csv_faults text = faults_from (stations text) [] text

-- a call of the reader looks at the lent tables first
unfoldable pub reading_csv_faults : LentTables → (text : List ℕ) → List Row
reading_csv_faults l text =
    table_lengths (length l.amounts) (length l.tickets) (length l.asks) (length l.bays) (length l.bids)
    ∷ csv_faults text
