-- What the functions that write rows promise each other. Nothing that `grid::place_bids` promises depends on this file.
use Rattle.std.specs.Prelude.{ℕ, ◌+◌, ◌≤◌, ◌<◌, List, ◌≡◌, get_or, length}
use Rattle.model.specs.Limits.{max_stations, max_price, max_squared_distance}
use Rattle.model.specs.Counting.{list}
use Rattle.model.specs.places.Bids.{cell, squared_distance, walk, bid_between}
use Rattle.model.specs.claims.Places.{OnGrid}
use Rattle.model.specs.declared.cell.Cell.{Cell}
use Rattle.grid.specs.declared.rows.Grid.{Grid}
use Rattle.grid.specs.declared.rows.Guest.{Guest}

-- a guest's bids at all stations, by the stations' first and second coordinates
unfoldable pub row_bids : Guest → (firsts seconds : List ℕ) → List ℕ
row_bids guest firsts seconds =
    list (length firsts)
    (λ j. bid_between guest.price.0 guest.fall.0 guest.cell (cell (get_or firsts j 0) (get_or seconds j 0)))

-- the squared distance of a cell from each station, and all of them
unfoldable pub square_at : Cell → (firsts seconds : List ℕ) → ℕ → ℕ
square_at a firsts seconds j = squared_distance a (cell (get_or firsts j 0) (get_or seconds j 0))

unfoldable pub row_squares : Cell → (firsts seconds : List ℕ) → List ℕ
row_squares a firsts seconds = list (length firsts) (square_at a firsts seconds)

-- what they are written from: cells on the grid, and a place for each
pub record SquaresReady (a : Cell) (firsts seconds squares : List ℕ) : Type 0 where
  pub on_grid : OnGrid a
  pub seconds_long : length seconds ≡ length firsts
  pub station_on_grid : (j : ℕ) → j < length firsts → OnGrid (cell (get_or firsts j 0) (get_or seconds j 0))
  pub squares_long : length squares ≡ length firsts

-- what such a row is written from: the table of walks, a guest and stations on the grid, and a place for each
pub record RowReady (grid : Grid) (guest : Guest) (row : List ℕ) : Type 0 where
  pub few : length grid.firsts.now ≤ max_stations
  pub walks_are : grid.walks.now ≡ list (max_squared_distance + 1) walk
  pub fall_most : guest.fall.0 ≤ max_price
  pub guest_on_grid : OnGrid guest.cell
  pub seconds_long : length grid.seconds.now ≡ length grid.firsts.now
  pub station_on_grid :
      (j : ℕ) → j < length grid.firsts.now → OnGrid (cell (get_or grid.firsts.now j 0) (get_or grid.seconds.now j 0))
  pub row_long : length row ≡ length grid.firsts.now
