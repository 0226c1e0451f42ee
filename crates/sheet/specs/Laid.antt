-- The parts of a shortest sheet, as the functions that write them see them. Nothing that `sheet::write` promises
-- depends on this file.
use Rattle.std.specs.Prelude.{ℕ, ◌+◌, ◌*◌, List, ◌++◌, get_or}
use Rattle.model.specs.Counting.{◌<?◌, joined}
use Rattle.model.specs.sheet.Fields.{map_width}
use Rattle.model.specs.sheet.Layout.{bytes_of, pack, stated}

unfoldable pub station_bytes : (ask bays : ℕ) → List ℕ
station_bytes ask bays = bytes_of 4 ask ++ bytes_of 2 bays

unfoldable pub station_of : (asks bays : List ℕ) → ℕ → List ℕ
station_of asks bays j = station_bytes (get_or asks j 0) (get_or bays j 0)

-- a bid of a row
unfoldable pub bid_in : (row : List ℕ) → ℕ → ℕ
bid_in row j = get_or row j 0

-- a field for a bid that is not 0
unfoldable pub bid_field : ℕ → List ℕ
bid_field x = stated (0 <? x) x

unfoldable pub bid_fields : (m : ℕ) (bid : ℕ → ℕ) → List ℕ
bid_fields m bid = joined m (λ j. bid_field (bid j))

unfoldable pub row_map : (m : ℕ) (bid : ℕ → ℕ) → ℕ
row_map m bid = pack m (λ j. 0 <? bid j)

unfoldable pub row_bytes : (amount ticket m : ℕ) (bid : ℕ → ℕ) → List ℕ
row_bytes amount ticket m bid =
    bytes_of 2 amount ++ (bytes_of 4 ticket ++ (bytes_of (map_width m) (row_map m bid) ++ bid_fields m bid))

unfoldable pub row_of : (amounts tickets bids : List ℕ) (m i : ℕ) → List ℕ
row_of amounts tickets bids m i =
    row_bytes (get_or amounts i 0) (get_or tickets i 0) m (λ j. get_or bids (i * m + j) 0)
