-- Bids from parking places. Document 02, request 3.
-- Guests and stations count from 0 here.
use Rattle.std.specs.Prelude.{ℕ, ◌+◌, ◌*◌, ◌-◌, List, get_or, length}
use Rattle.model.specs.Counting.{◌≤?◌, only, greatest, list, joined}
use Rattle.model.specs.declared.cell.Cell.{Cell}

-- a cell of the grid, by its coordinates
abbrev pub cell : (first second : ℕ) → Cell
cell first second = record { first = first; second = second }

-- the difference of two coordinates, never negative: one of the two is 0
unfoldable pub difference : ℕ → ℕ → ℕ
difference x y = (x - y) + (y - x)

unfoldable pub squared_distance : Cell → Cell → ℕ
squared_distance a b =
    difference a.first b.first * difference a.first b.first
    + difference a.second b.second * difference a.second b.second

-- the walk in tenths of a cell: the greatest whole d with d times d at most 100 times q. No d above 100 times q is one
-- (`WalkIsGreatest`)
unfoldable pub walk : ℕ → ℕ
walk q = greatest (100 * q + 1) (λ d. only (d * d ≤? 100 * q) d)

-- price less fall times walk, or 0 where that is negative
unfoldable pub bid_between : (price fall : ℕ) (guest station : Cell) → ℕ
bid_between price fall guest station = price - fall * walk (squared_distance guest station)

-- what is lent: each guest's price and fall, and a list of first and one of second coordinates for guests and stations
pub record Places : Type 0 where
  pub prices : List ℕ
  pub falls : List ℕ
  pub guest_first : List ℕ
  pub guest_second : List ℕ
  pub station_first : List ℕ
  pub station_second : List ℕ

abbrev pub places : (prices falls guest_first guest_second station_first station_second : List ℕ) → Places
places prices falls guest_first guest_second station_first station_second = record {
  prices = prices;
  falls = falls;
  guest_first = guest_first;
  guest_second = guest_second;
  station_first = station_first;
  station_second = station_second;
}

-- n and m
abbrev pub guests_placed : Places → ℕ
guests_placed p = length p.guest_first

abbrev pub stations_placed : Places → ℕ
stations_placed p = length p.station_first

unfoldable pub guest_cell : Places → ℕ → Cell
guest_cell p i = cell (get_or p.guest_first i 0) (get_or p.guest_second i 0)

unfoldable pub station_cell : Places → ℕ → Cell
station_cell p j = cell (get_or p.station_first j 0) (get_or p.station_second j 0)

-- guest i's bid at station j
unfoldable pub placed_bid : Places → ℕ → ℕ → ℕ
placed_bid p i j = bid_between (get_or p.prices i 0) (get_or p.falls i 0) (guest_cell p i) (station_cell p j)

-- all bids, row after row
unfoldable pub placed_bids : Places → List ℕ
placed_bids p = joined (guests_placed p) (λ i. list (stations_placed p) (placed_bid p i))
