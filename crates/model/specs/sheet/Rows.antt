-- Where the fields of each station and of each guest's row stand in a sheet, what they hold, and a row's faults.
-- Document 01, 'The sheet' and the reader's rows of 'Refusals by place'.
-- Guests and stations count from 0 here.
use Rattle.std.specs.Prelude.{ℕ, zero, suc, ◌+◌, ◌*◌, ◌/◌, ◌^◌, Bool, List, [], ◌∷◌, length}
use Rattle.model.specs.Counting.{◌<?◌, ◌=?◌, only, count, joined}
use Rattle.model.specs.Verdicts.{Row, ◌gives◌}
use Rattle.model.specs.sheet.Fields.{little_endian, map_width, has_bit}

-- of the row that starts at p: its bit map, after amount and ticket; where its bids start, where the next row starts
unfoldable pub map_at : List ℕ → (m p : ℕ) → ℕ
map_at s m p = little_endian s (p + 6) (map_width m)

unfoldable pub bids_at : (m p : ℕ) → ℕ
bids_at m p = p + 6 + map_width m

unfoldable pub next_at : List ℕ → (m p : ℕ) → ℕ
next_at s m p = bids_at m p + 4 * count m (has_bit (map_at s m p))

-- where the row of guest i starts
unfoldable pub row_at : List ℕ → (m i : ℕ) → ℕ
row_at s m zero = 4 + 6 * m
row_at s m (suc i) = next_at s m (row_at s m i)

unfoldable pub ask_of : List ℕ → ℕ → ℕ
ask_of s j = little_endian s (4 + 6 * j) 4

unfoldable pub bays_of : List ℕ → ℕ → ℕ
bays_of s j = little_endian s (8 + 6 * j) 2

unfoldable pub amount_of : List ℕ → (m i : ℕ) → ℕ
amount_of s m i = little_endian s (row_at s m i) 2

unfoldable pub ticket_of : List ℕ → (m i : ℕ) → ℕ
ticket_of s m i = little_endian s (row_at s m i + 2) 4

-- the bid for station j in a row with this map, whose bids start at q: a field for each set bit, 0 for a clear one
unfoldable pub bid_by : List ℕ → (map q j : ℕ) → ℕ
bid_by s map q j = only (has_bit map j) (little_endian s (q + 4 * count j (has_bit map)) 4)

unfoldable pub bid_of : List ℕ → (m i j : ℕ) → ℕ
bid_of s m i = bid_by s (map_at s m (row_at s m i)) (bids_at m (row_at s m i))

-- ---- faults, in the order of the table

-- 'a set bit whose bid is 0' (document 02, request 8): the bid field at p holds 0
abbrev pub is_empty : List ℕ → (p : ℕ) → Bool
is_empty s p = little_endian s p 4 =? 0

-- of the bid field at p
unfoldable pub bid_faults : List ℕ → (p : ℕ) → List Row
bid_faults s p = (length s <? p + 4 gives 1) ∷ (is_empty s p gives 19) ∷ []

-- of k bid fields, one after the other from q on: those of the set bits in turn
unfoldable pub bids_faults : List ℕ → (q k : ℕ) → List Row
bids_faults s q k = joined k (λ i. bid_faults s (q + 4 * i))

unfoldable pub row_faults : List ℕ → (m p : ℕ) → List Row
row_faults s m p =
    (length s <? p + 2 gives 1)
    ∷ (length s <? p + 6 gives 1)
    ∷ (length s <? bids_at m p gives 1)
    ∷ (0 <? map_at s m p / 2 ^ m gives 3)
    ∷ bids_faults s (bids_at m p) (count m (has_bit (map_at s m p)))

unfoldable pub rows_faults : List ℕ → (m n : ℕ) → List Row
rows_faults s m n = joined n (λ i. row_faults s m (row_at s m i))
