-- The cases of request 3, by computation.
use mathlib.Core.List.{[], ◌∷◌}
use mathlib.Core.Path.{refl}
use native.Mathlib.Omega.{arith}
use Rattle.model.specs.Numbers.{answer_of_verdict}
use Rattle.model.specs.market.Faults.{Accepted as AcceptedMarket}
use Rattle.model.specs.clauses.EntryPoints.{placing}
use Rattle.model.specs.claims.Places.{Placed, without_bids}
use Rattle.std.specs.Prelude.{Ok}
use Rattle.model.specs.cases.Places.{DistancesHold, WalksHold, BidsHold, two_by_two, PlacedBidsHold, placed_market}
use Rattle.model.specs.cases.Places.{PlacedMarketClears, PlacedInstance, PlacingsJudged}
use Rattle.model.proofs.cases.Computing.{clearing_computes, placing_computes}
use Rattle.model.proofs.claims.Places.{placed_nearer_never_lowers, placed_market_accepted}

pub distances_hold : DistancesHold
unfolding placing_computes
distances_hold = refl

pub walks_hold : WalksHold
unfolding placing_computes
walks_hold = refl

pub bids_hold : BidsHold
unfolding placing_computes
bids_hold = refl

pub placed_bids_hold : PlacedBidsHold
unfolding placing_computes two_by_two
placed_bids_hold = refl

pub placed_market_clears : PlacedMarketClears
unfolding clearing_computes placing_computes two_by_two placed_market
placed_market_clears = refl

bids_were_placed : Placed two_by_two placed_market.bids
unfolding placing_computes answer_of_verdict placing two_by_two placed_market
bids_were_placed = record {
  entry = 9 ∷ 9 ∷ 9 ∷ 9 ∷ [];
  answer = Ok tt;
  called = record { answered = refl; left = refl };
  accepts = refl;
}

other_tables_accepted : AcceptedMarket (without_bids placed_market)
unfolding clearing_computes placing_computes two_by_two placed_market without_bids
other_tables_accepted = refl

pub placed_instance : PlacedInstance
unfolding placing_computes two_by_two placed_market
placed_instance = record {
  placed = bids_were_placed;
  other_tables = other_tables_accepted;
  market = (placed_market_accepted two_by_two placed_market bids_were_placed).1 other_tables_accepted;
  nearer = placed_nearer_never_lowers two_by_two two_by_two placed_market.bids placed_market.bids bids_were_placed
      bids_were_placed 0 0 0 1 (omega arith) (omega arith) (omega arith) (omega arith) refl refl (omega arith);
}

pub placings_judged : PlacingsJudged
unfolding placing_computes two_by_two
placings_judged = refl
