-- Document 02, request 3: what the definitions say, and what calls of `place_bids` give, from places, answers and bid
-- tables alone.
-- Each statement is a type; its proof is a term of proofs/.
use Rattle.std.specs.Prelude.{ℕ, ◌+◌, ◌*◌, ◌≤◌, ◌<◌, List, ◌↔◌, ◌≡◌, get_or, length, replicate, Result}
use Rattle.model.specs.Limits.{max_guests, max_stations, max_cell, max_squared_distance, max_price}
use Rattle.model.specs.Numbers.{answer_of_verdict}
use Rattle.model.specs.Verdicts.{accepted, first_fault}
use Rattle.model.specs.market.Market.{Tables, tables, bid_at}
use Rattle.model.specs.market.Faults.{Accepted}
use Rattle.model.specs.places.Bids.{squared_distance, walk, bid_between, Places, guests_placed, stations_placed}
use Rattle.model.specs.places.Bids.{guest_cell, station_cell, placed_bid, placed_bids}
use Rattle.model.specs.places.Faults.{placing_faults}
use Rattle.model.specs.clauses.EntryPoints.{PlacesBids}
use Rattle.model.specs.declared.cell.Cell.{Cell}
use Rattle.model.specs.declared.refusal.Refusal.{Refusal}

-- 'the greatest whole d with d times d at most 100 times q'
abbrev pub WalkIsGreatest : Type 0
WalkIsGreatest = (q : ℕ) → (walk q * walk q ≤ 100 * q) × ((d : ℕ) → d * d ≤ 100 * q → d ≤ walk q)

-- 'at the same price and fall, a nearer cell never lowers a bid'
abbrev pub NearerNeverLowers : Type 0
NearerNeverLowers =
    (price fall : ℕ) (guest station guest' station' : Cell)
    → squared_distance guest' station' ≤ squared_distance guest station
    → bid_between price fall guest station ≤ bid_between price fall guest' station'

-- 'Cells lie on a grid, 0 to 31 each way', so that q is never above the table's last
pub record OnGrid (c : Cell) : Type 0 where
  pub first_most : c.first ≤ max_cell
  pub second_most : c.second ≤ max_cell

abbrev pub GridDistances : Type 0
GridDistances = (a b : Cell) → OnGrid a → OnGrid b → squared_distance a b ≤ max_squared_distance

-- a call is accepted exactly within these limits
pub record PlacesWithinLimits (p : Places) (bids : ℕ) : Type 0 where
  pub guests_most : guests_placed p ≤ max_guests
  pub stations_least : 1 ≤ stations_placed p
  pub stations_most : stations_placed p ≤ max_stations
  pub prices_length : length p.prices ≡ guests_placed p
  pub falls_length : length p.falls ≡ guests_placed p
  pub guest_second_length : length p.guest_second ≡ guests_placed p
  pub station_second_length : length p.station_second ≡ stations_placed p
  pub bids_length : bids ≡ guests_placed p * stations_placed p
  pub guest_on_grid : (i : ℕ) → i < guests_placed p → OnGrid (guest_cell p i)
  pub station_on_grid : (j : ℕ) → j < stations_placed p → OnGrid (station_cell p j)
  pub price_most : (i : ℕ) → i < guests_placed p → get_or p.prices i 0 ≤ max_price
  pub fall_most : (i : ℕ) → i < guests_placed p → get_or p.falls i 0 ≤ max_price

abbrev pub PlacingAcceptedIffWithinLimits : Type 0
PlacingAcceptedIffWithinLimits =
    (p : Places) (bids : ℕ) → (first_fault (placing_faults p bids) ≡ accepted tt) ↔ PlacesWithinLimits p bids

-- an accepted call of `place_bids`, and the bids that it left
pub record Placed (p : Places) (bids : List ℕ) : Type 0 where
  pub entry : List ℕ
  pub answer : Result Unit Refusal
  pub called : PlacesBids p entry answer bids
  pub accepts : answer_of_verdict answer ≡ accepted tt

-- there is one for all places within the limits
abbrev pub PlacedExists : Type 0
PlacedExists = (p : Places) → PlacesWithinLimits p (guests_placed p * stations_placed p) → Placed p (placed_bids p)

-- they stand row after row, as the bids of a market do
abbrev pub PlacedBidsAreRead : Type 0
PlacedBidsAreRead =
    (p : Places) (t : Tables) → Placed p t.bids → length t.asks ≡ stations_placed p
    → (i j : ℕ) → i < guests_placed p → j < stations_placed p → bid_at t i j ≡ placed_bid p i j

-- no bid is above its guest's price
abbrev pub PlacedWithinPrice : Type 0
PlacedWithinPrice =
    (p : Places) (bids : List ℕ) → Placed p bids → (i j : ℕ) → i < guests_placed p → j < stations_placed p
    → get_or bids (i * stations_placed p + j) 0 ≤ get_or p.prices i 0

-- a nearer cell, in the same call or in another
abbrev pub PlacedNearerNeverLowers : Type 0
PlacedNearerNeverLowers =
    (p p' : Places) (bids bids' : List ℕ) → Placed p bids → Placed p' bids'
    → (i j i' j' : ℕ) → i < guests_placed p → j < stations_placed p → i' < guests_placed p' → j' < stations_placed p'
    → get_or p'.prices i' 0 ≡ get_or p.prices i 0 → get_or p'.falls i' 0 ≡ get_or p.falls i 0
    → squared_distance (guest_cell p' i') (station_cell p' j') ≤ squared_distance (guest_cell p i) (station_cell p j)
    → get_or bids (i * stations_placed p + j) 0 ≤ get_or bids' (i' * stations_placed p' + j') 0

-- 'a market made this way clears as any other': it is accepted exactly where it is with a bid of 0 everywhere, so that
-- its other tables decide, and what holds of accepted markets holds of it
unfoldable pub without_bids : Tables → Tables
without_bids t = tables t.asks t.bays t.amounts t.tickets (replicate (length t.bids) 0) t.width

abbrev pub PlacedMarketAccepted : Type 0
PlacedMarketAccepted = (p : Places) (t : Tables) → Placed p t.bids → Accepted t ↔ Accepted (without_bids t)
