-- Laws of the loops that write rows.
use Prim.Native.Nat.{ℕ, ◌+◌, ◌*◌, ◌-◌, ◌^◌, ◌≤◌, ◌<◌}
use mathlib.Core.List.{List}
use mathlib.Core.Path.{◌≡◌, refl, sym, ap, ◌∙◌}
use native.Mathlib.Nat.{mul-le-mul, mul-le-mul_right}
use native.Mathlib.Omega.{arith}
use lib.ListN.{get_or, length, take, drop, length-take, length-drop}
use borrow.Rule.Slice.PartMut.{put_mid}
use Rattle.std.proofs.lemmas.Slice.{put_mid-paste}
use Rattle.model.specs.Limits.{max_guests, max_stations, max_squared_distance}
use Rattle.model.specs.places.Bids.{cell, squared_distance, walk, bid_between, Places, guests_placed}
use Rattle.model.specs.places.Bids.{stations_placed, guest_cell, station_cell, placed_bid, placed_bids}
use Rattle.model.proofs.Counting.{length_list}
use Rattle.model.proofs.Loops.{element}
use Rattle.model.proofs.market.Acceptance.{product_fits}
use Rattle.model.proofs.Tables.{RowsWritten, rows_turn, rows_end}
use Rattle.model.proofs.places.Cells.{grid_distances}
use Rattle.model.proofs.places.Walks.{walk_most}
use Rattle.model.specs.declared.cell.Cell.{Cell}
use Rattle.grid.specs.Rows.{square_at, row_squares, row_bids, RowReady}
use Rattle.grid.specs.declared.rows.Grid.{Grid}
use Rattle.grid.specs.declared.rows.Guest.{Guest}

-- ---- the squared distances of a row

pub squares_long :
    (a : Cell) (firsts seconds : List ℕ) {squares : List ℕ} → squares ≡ row_squares a firsts seconds
    → length squares ≡ length firsts
unfolding row_squares
squares_long a firsts seconds e = ap length e ∙ length_list (length firsts) _

pub square_is :
    (a : Cell) (firsts seconds : List ℕ) {squares : List ℕ} → squares ≡ row_squares a firsts seconds
    → (j : ℕ) → j < length firsts
    → get_or squares j 0 ≡ squared_distance a (cell (get_or firsts j 0) (get_or seconds j 0))
unfolding row_squares square_at
square_is a firsts seconds e j l = element (length firsts) (square_at a firsts seconds) e j l

-- ---- one bid: the walk is read from the table

pub walk_square :
    {grid : Grid} {guest : Guest} {row squares : List ℕ} → RowReady grid guest row → (j : ℕ) → j < length row
    → squares ≡ row_squares guest.cell grid.firsts.now grid.seconds.now → {q : ℕ} → q ≡ get_or squares j 0
    → q ≡ squared_distance guest.cell (cell (get_or grid.firsts.now j 0) (get_or grid.seconds.now j 0))
walk_square s j l e f = f ∙ square_is _ _ _ e j (omega (arith, s.row_long))

module _ {grid : Grid} {guest : Guest} {row : List ℕ} (s : RowReady grid guest row) (j : ℕ) (l : j < length row) {q : ℕ}
    (e : q ≡ squared_distance guest.cell (cell (get_or grid.firsts.now j 0) (get_or grid.seconds.now j 0))) where
  abbrev walks : List ℕ
  walks = grid.walks.now

  below : j < length grid.firsts.now
  below = omega (arith, s.row_long)

  pub in_table : q < max_squared_distance + 1
  in_table = omega (arith, grid_distances _ _ s.guest_on_grid (s.station_on_grid j below))

  walked : get_or walks q 0 ≡ walk q
  walked = element (max_squared_distance + 1) walk s.walks_are q in_table

  pub loss_fits : guest.fall.0 * get_or walks q 0 < 2 ^ 32
  loss_fits =
      let low : q ≤ max_squared_distance = omega (arith, in_table) in
      rw walked (omega (arith, mul-le-mul s.fall_most (walk_most q low)))

  pub bid_is :
      {v : ℕ} → v ≡ guest.price.0 - guest.fall.0 * get_or walks q 0
      → v ≡ bid_between guest.price.0 guest.fall.0 guest.cell
      (cell (get_or grid.firsts.now j 0) (get_or grid.seconds.now j 0))
  unfolding bid_between
  bid_is f = f ∙ ap (λ w. guest.price.0 - guest.fall.0 * w) (walked ∙ ap walk e)

-- ---- all rows

-- a guest's part of the bids
pub part_long :
    (l : List ℕ) (n m i : ℕ) → length l ≡ n * m → i < n → length (take ((i + 1) * m - i * m) (drop (i * m) l)) ≡ m
part_long l n m i e h =
    omega (arith, mul-le-mul_right m h, length-take ((i + 1) * m - i * m) (drop (i * m) l), length-drop (i * m) l)

unfoldable pub guest_of : Places → ℕ → Guest
guest_of p i = record {
  price = record { 0 = get_or p.prices i 0 };
  fall = record { 0 = get_or p.falls i 0 };
  cell = guest_cell p i;
}

-- the rows of the first i guests are written
abbrev pub RowsPlaced : (p : Places) (bids₀ bids : List ℕ) (i : ℕ) → Type 0
RowsPlaced p = RowsWritten (guests_placed p) (stations_placed p) (placed_bid p)

module _ (p : Places) {bids₀ bids : List ℕ} {i : ℕ} (s : RowsPlaced p bids₀ bids i) where
  pub rows_fit :
      guests_placed p ≤ max_guests → stations_placed p ≤ max_stations
      → i * stations_placed p ≤ max_guests * max_stations
  rows_fit n m = product_fits i (stations_placed p) (omega (arith, s.within)) m

  pub row_placed :
      {bids' : List ℕ} → i < guests_placed p
      → {row : List ℕ} → row ≡ row_bids (guest_of p i) p.station_first p.station_second
      → bids' ≡ put_mid (i * stations_placed p) ((i + 1) * stations_placed p - i * stations_placed p) bids row
      → RowsPlaced p bids₀ bids' (i + 1)
  unfolding row_bids placed_bid guest_of guest_cell station_cell
  row_placed l e f = rows_turn s l (λ j _. refl) (f ∙ put_mid-paste _ _ bids _ _ (stations_placed p) e (omega arith)
      (sym (length_list (stations_placed p) _)))

  pub all_placed : guests_placed p ≤ i → bids ≡ placed_bids p
  unfolding placed_bids
  all_placed l = rows_end s l
