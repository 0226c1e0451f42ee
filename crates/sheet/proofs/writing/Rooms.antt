-- The parts of a shortest sheet, and how long they are.
use Prim.Native.Nat.{ℕ, ◌+◌, ◌*◌, ◌<◌, ◌≤◌}
use mathlib.Core.List.{List, ◌++◌}
use mathlib.Core.Path.{◌≡◌, refl, sym, ap, ap₂}
use native.Mathlib.Nat.{mul-le-mul_right}
use native.Mathlib.Omega.{arith}
use lib.ListN.{length, get_or}
use Rattle.model.specs.Limits.{max_bids}
use Rattle.model.specs.Counting.{◌<?◌, count, joined}
use Rattle.model.specs.market.Market.{Tables, regular, bid_at}
use Rattle.model.specs.market.Shape.{Shaped}
use Rattle.model.specs.sheet.Fields.{map_width}
use Rattle.model.specs.sheet.Layout.{bytes_of, station, row, layout, bidden}
use Rattle.model.specs.sheet.Shortest.{shortest}
use Rattle.model.specs.clauses.Rows.{row_of as viewed}
use Rattle.model.proofs.clauses.Rows.{row_long, row_shows}
use Rattle.model.proofs.market.Acceptance.{product_fits}
use Rattle.model.proofs.sheet.Holds.{pack_cong}
use Rattle.model.proofs.sheet.Joined.{joined_cong}
use Rattle.model.proofs.sheet.Lengths.{row_head, shortest_length}
use Rattle.sheet.specs.Laid.{station_bytes, station_of, bid_in, bid_field, bid_fields, row_map}
use Rattle.sheet.specs.Laid.{row_bytes, row_of}

-- the parts in their order
abbrev pub stations_part : (asks bays : List ℕ) → List ℕ
stations_part asks bays = joined (length asks) (station_of asks bays)

abbrev pub rows_part : (asks amounts tickets bids : List ℕ) → List ℕ
rows_part asks amounts tickets bids = joined (length amounts) (row_of amounts tickets bids (length asks))

abbrev pub sheet_parts : (asks bays amounts tickets bids : List ℕ) → List ℕ
sheet_parts asks bays amounts tickets bids =
    bytes_of 2 (length amounts)
    ++ (bytes_of 2 (length asks) ++ (stations_part asks bays ++ rows_part asks amounts tickets bids))

pub sheet_parts_lem :
    (asks bays amounts tickets bids : List ℕ)
    → shortest (regular asks bays amounts tickets bids) ≡ sheet_parts asks bays amounts tickets bids
unfolding shortest layout station row bidden bid_at station_of station_bytes row_of row_bytes row_map bid_fields
    bid_field
sheet_parts_lem asks bays amounts tickets bids = refl

-- the row that the view of the bids shows of guest i, laid out
pub row_shown :
    (amounts tickets bids : List ℕ) (m i : ℕ) {row : List ℕ} → (i + 1) * m ≤ length bids → row ≡ viewed bids m (i + 1)
    → row_bytes (get_or amounts i 0) (get_or tickets i 0) (length row) (bid_in row) ≡ row_of amounts tickets bids m i
unfolding row_of row_bytes row_map bid_fields bid_in
row_shown amounts tickets bids m i {row} l e =
    let shows : (j : ℕ) → j < m → get_or row j 0 ≡ get_or bids (i * m + j) 0 = λ j h. rw e (row_shows bids m i j l h) in
    let long : length row ≡ m = rw e (row_long bids m i l) in
    rw long (ap₂
    (λ x y. bytes_of 2 (get_or amounts i 0) ++ (bytes_of 4 (get_or tickets i 0) ++ (bytes_of (map_width m) x ++ y)))
    (pack_cong m _ _ (λ j h. ap (λ x. 0 <? x) (shows j h))) (joined_cong m _ _ (λ j h. ap bid_field (shows j h))))

pub room_for_parts :
    (asks bays amounts tickets bids : List ℕ) {n : ℕ} → length (shortest (regular asks bays amounts tickets bids)) ≤ n
    → 0 + length (sheet_parts asks bays amounts tickets bids) ≤ n
room_for_parts asks bays amounts tickets bids h =
    omega (arith, ap length (sheet_parts_lem asks bays amounts tickets bids))

-- what its length is added up from
pub record Sizes (t : Tables) : Type 0 where
  pub head_low : row_head (length t.asks) ≤ 11
  pub heads_low : length t.amounts * row_head (length t.asks) ≤ 2200
  pub bids_low : length t.bids ≤ max_bids

pub sizes : (t : Tables) → Shaped t → Sizes t
unfolding map_width
sizes t s = record {
  head_low = omega (arith, s.stations_most);
  heads_low = omega (arith, s.stations_most, mul-le-mul_right (row_head (length t.asks)) s.guests_most);
  bids_low = omega (arith, s.bids_length, product_fits _ _ s.guests_most s.stations_most);
}

pub by_count :
    (t : Tables) (w k : ℕ) → Shaped t → w ≡ map_width (length t.asks)
    → k ≡ count (length t.bids) (λ k. 0 <? get_or t.bids k 0)
    → 4 + length t.asks * 6 + (length t.amounts * (6 + w) + 4 * k) ≡ length (shortest t)
by_count t w k s e f = rw (e, f, s.bids_length) (sym (shortest_length t))
