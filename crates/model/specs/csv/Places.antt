-- What stands before a place of a comma-separated market. Document 02, request 10.
-- A text is a list of bytes. What stands before a place is a list too, its last byte first: `past`. Lines and the
-- fields of a line count from 0 here: line 0 has the asks, line 1 the bays, line 2 + i guest i.
use Rattle.std.specs.Prelude.{ℕ, ◌+◌, ◌*◌, ◌-◌, Bool, true, false, not, List, [], ◌∷◌}
use Rattle.model.specs.Counting.{◌≤?◌, ◌=?◌, ◌and◌, only}

-- bytes: comma, CR and LF, and the digits '0' to '9'
abbrev pub comma : ℕ
comma = 44

abbrev pub cr : ℕ
cr = 13

abbrev pub lf : ℕ
lf = 10

unfoldable pub is_digit : ℕ → Bool
is_digit b = 48 ≤? b and b ≤? 57

-- the lines that have ended: how many LF there are
unfoldable pub line_of : List ℕ → ℕ
line_of [] = 0
line_of (b ∷ past) = only (b =? lf) 1 + line_of past

-- the fields that have ended in this line: how many commas there are after the last LF
unfoldable pub field_of : List ℕ → ℕ
field_of [] = 0
field_of (b ∷ past) = only (not (b =? lf)) (only (b =? comma) 1 + field_of past)

-- how many digits there are after the last byte that is none
unfoldable pub digits_of : List ℕ → ℕ
digits_of [] = 0
digits_of (b ∷ past) = only (is_digit b) (1 + digits_of past)

-- the decimal number that they are; 0 for none
unfoldable pub value_of : List ℕ → ℕ
value_of [] = 0
value_of (b ∷ past) = only (is_digit b) (10 * value_of past + (b - 48))

-- the byte before is CR
unfoldable pub after_cr : List ℕ → Bool
after_cr [] = false
after_cr (b ∷ past) = b =? cr

-- a line starts here
unfoldable pub starts_line : List ℕ → Bool
starts_line [] = true
starts_line (b ∷ past) = b =? lf
