-- The fields of a sheet. Document 01, 'The sheet'.
-- A sheet is a list of bytes. Every definition is a total function of a place in it; a byte past the end counts as 0,
-- which no accepted sheet shows.
use Rattle.std.specs.Prelude.{ℕ, zero, suc, ◌+◌, ◌*◌, ◌/◌, ◌%◌, ◌^◌, Bool, List, get_or}
use Rattle.model.specs.Counting.{◌=?◌}

-- the number that k bytes from place p hold, lowest byte first
unfoldable pub little_endian : List ℕ → (p k : ℕ) → ℕ
little_endian s p zero = 0
little_endian s p (suc k) = get_or s p 0 + 256 * little_endian s (p + 1) k

-- the bytes of a bit map for m stations: ceil(m / 8)
unfoldable pub map_width : ℕ → ℕ
map_width m = (m + 7) / 8

-- whether a map has the bit of station j set
unfoldable pub has_bit : (map j : ℕ) → Bool
has_bit map j = map / 2 ^ j % 2 =? 1
