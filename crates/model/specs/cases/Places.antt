-- Cases of document 02, request 3: walks, bids, a market made of them, and the faults of calls, as one fact over each
-- table.
use Rattle.std.specs.Prelude.{ℕ, ◌≤◌, [], ◌∷◌, map, ◌≡◌, get_or, replicate}
use Rattle.model.specs.Verdicts.{accepted, refused, first_fault, giving}
use Rattle.model.specs.declared.rule.Rule.TheVariants.{Median}
use Rattle.model.specs.market.Market.{Tables}
use Rattle.model.specs.market.Faults.{verdict, Accepted}
use Rattle.model.specs.market.Outcome.{outcome_of, outcome}
use Rattle.model.specs.places.Bids.{cell, squared_distance, walk, bid_between, Places, places, placed_bids}
use Rattle.model.specs.places.Faults.{placing_faults}
use Rattle.model.specs.claims.Places.{Placed, without_bids}
use Rattle.model.specs.cases.Cases.{numbered}

-- the page's cells, and the grid's corners, either way round
abbrev pub DistancesHold : Type 0
DistancesHold =
    (squared_distance (cell 0 0) (cell 3 4) ∷ squared_distance (cell 3 4) (cell 0 0)
    ∷ squared_distance (cell 0 31) (cell 31 0) ∷ squared_distance (cell 7 7) (cell 7 7) ∷ [])
    ≡ (25 ∷ 25 ∷ 1_922 ∷ 0 ∷ [])

-- the page's walks, then one below a whole
abbrev pub WalksHold : Type 0
WalksHold =
    (walk (squared_distance (cell 0 0) (cell 3 4)) ∷ walk 2 ∷ walk 1_922 ∷ walk 0 ∷ walk 24 ∷ [])
    ≡ (50 ∷ 14 ∷ 438 ∷ 0 ∷ 48 ∷ [])

-- a fall of 2 over 50 tenths: to spare, just used up, and more than the price
abbrev pub BidsHold : Type 0
BidsHold =
    map (λ price. bid_between price 2 (cell 0 0) (cell 3 4)) (101 ∷ 100 ∷ 99 ∷ 0 ∷ []) ≡ (1 ∷ 0 ∷ 0 ∷ 0 ∷ [])

-- guests at (0,0) and (1,1), stations at (3,4) and (0,0): walks 50 and 0, 36 and 14
unfoldable pub two_by_two : Places
two_by_two = places (100 ∷ 60 ∷ []) (1 ∷ 2 ∷ []) (0 ∷ 1 ∷ []) (0 ∷ 1 ∷ []) (3 ∷ 0 ∷ []) (4 ∷ 0 ∷ [])

abbrev pub PlacedBidsHold : Type 0
PlacedBidsHold = placed_bids two_by_two ≡ (50 ∷ 100 ∷ 0 ∷ 32 ∷ [])

-- asks 30 and 20, a bay each: the cut is 30, station 2 opens, and both bid there
unfoldable pub placed_market : Tables
placed_market = numbered (30 ∷ 20 ∷ []) (1 ∷ 1 ∷ []) (3 ∷ 2 ∷ []) (placed_bids two_by_two)

abbrev pub PlacedMarketClears : Type 0
PlacedMarketClears =
    giving (verdict placed_market) (outcome Median placed_market)
    ≡ accepted (outcome_of 30 0 (2 ∷ 0 ∷ []) (90 ∷ 0 ∷ []) (0 ∷ 3 ∷ []) (0 ∷ 90 ∷ []))

-- an accepted call left these bids; so the market is accepted, and guest 1's bid at the nearer station is no lower
pub record PlacedInstance : Type 0 where
  pub placed : Placed two_by_two placed_market.bids
  pub other_tables : Accepted (without_bids placed_market)
  pub market : Accepted placed_market
  pub nearer : get_or placed_market.bids 0 0 ≤ get_or placed_market.bids 1 0

-- one guest and one station: price, fall, and the four coordinates
abbrev one : (price fall guest_first guest_second station_first station_second : ℕ) → Places
one price fall guest_first guest_second station_first station_second =
    places (price ∷ []) (fall ∷ []) (guest_first ∷ []) (guest_second ∷ []) (station_first ∷ []) (station_second ∷ [])

-- each limit and one more; each list too short or too long; and the order of each number and the next
abbrev pub PlacingsJudged : Type 0
PlacingsJudged =
    map first_fault (
    placing_faults two_by_two 4
    ∷ placing_faults (one 1_000_000 1_000_000 31 31 31 31) 1
    ∷ placing_faults (places [] [] [] [] (0 ∷ []) (0 ∷ [])) 0
    ∷ placing_faults (places (replicate 201 0) (replicate 201 0) (replicate 201 0) (replicate 201 0) (0 ∷ []) (0 ∷ []))
    201
    ∷ placing_faults (places (0 ∷ []) (0 ∷ []) (0 ∷ []) (0 ∷ []) [] []) 0
    ∷ placing_faults (places [] [] [] [] (replicate 41 0) (replicate 41 0)) 0
    ∷ placing_faults (places [] [] [] [] [] (32 ∷ [])) 9
    ∷ placing_faults two_by_two 3
    ∷ placing_faults two_by_two 5
    ∷ placing_faults (places [] (0 ∷ []) (0 ∷ []) (0 ∷ []) (0 ∷ []) (0 ∷ [])) 1
    ∷ placing_faults (places (0 ∷ []) (0 ∷ 0 ∷ []) (0 ∷ []) (0 ∷ []) (0 ∷ []) (0 ∷ [])) 1
    ∷ placing_faults (places (0 ∷ []) (0 ∷ []) (0 ∷ []) [] (0 ∷ []) (0 ∷ [])) 1
    ∷ placing_faults (places (0 ∷ []) (0 ∷ []) (0 ∷ []) (0 ∷ []) (0 ∷ []) (0 ∷ 0 ∷ [])) 1
    ∷ placing_faults (one 0 0 32 0 0 0) 0
    ∷ placing_faults (one 0 0 32 0 0 0) 1
    ∷ placing_faults (one 0 0 0 32 0 0) 1
    ∷ placing_faults (one 0 0 0 0 32 0) 1
    ∷ placing_faults (one 0 0 0 0 0 32) 1
    ∷ placing_faults (one 1_000_001 1_000_001 0 0 0 32) 1
    ∷ placing_faults (one 1_000_001 0 0 0 0 0) 1
    ∷ placing_faults (one 0 1_000_001 0 0 0 0) 1
    ∷ [])
    ≡ (accepted tt ∷ accepted tt ∷ accepted tt ∷ refused 2 ∷ refused 2 ∷ refused 2 ∷ refused 2 ∷ refused 5 ∷ refused 5
    ∷ refused 5 ∷ refused 5 ∷ refused 5 ∷ refused 5 ∷ refused 5 ∷ refused 16 ∷ refused 16 ∷ refused 16 ∷ refused 16
    ∷ refused 16 ∷ refused 17 ∷ refused 17 ∷ [])
