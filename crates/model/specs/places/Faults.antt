-- The faults of a call that places bids, in the order of document 02, request 3.
use Rattle.std.specs.Prelude.{ℕ, ◌*◌, not, List, [], ◌∷◌, length}
use Rattle.model.specs.Limits.{max_cell, max_price}
use Rattle.model.specs.Counting.{◌=?◌, ◌or◌, any}
use Rattle.model.specs.Verdicts.{Row, ◌gives◌}
use Rattle.model.specs.market.Faults.{outside, counts}
use Rattle.model.specs.places.Bids.{Places, guests_placed, stations_placed}

-- lengths, the bid table's included
unfoldable pub place_lengths : (n m prices falls guest_second station_second bids : ℕ) → Row
place_lengths n m prices falls guest_second station_second bids =
    (not (prices =? n) or not (falls =? n) or not (guest_second =? n) or not (station_second =? m) or not
    (bids =? n * m)) gives 5

-- a cell off the grid, then a price or fall out of range
unfoldable pub place_values : Places → List Row
place_values p =
    ((any p.guest_first (outside 0 max_cell) or any p.guest_second (outside 0 max_cell)
    or any p.station_first (outside 0 max_cell) or any p.station_second (outside 0 max_cell)) gives 16)
    ∷ ((any p.prices (outside 0 max_price) or any p.falls (outside 0 max_price)) gives 17)
    ∷ []

-- a call with a bid table of so many places
unfoldable pub placing_faults : Places → (bids : ℕ) → List Row
placing_faults p bids =
    counts (guests_placed p) (stations_placed p)
    ∷ place_lengths (guests_placed p) (stations_placed p) (length p.prices) (length p.falls)
    (length p.guest_second) (length p.station_second) bids
    ∷ place_values p
