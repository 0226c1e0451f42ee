-- Request 3, proved: what an accepted call left are the placed bids, and each is within its guest's price.
use Prim.Native.Nat.{ℕ, ◌+◌, ◌*◌, ◌≤◌, ◌<◌}
use mathlib.Core.List.{List}
use mathlib.Core.Path.{◌≡◌, refl, sym, ap, ◌∙◌}
use native.Mathlib.Nat.{mul-le-mul_left, le_trans}
use native.Mathlib.Omega.{arith}
use lib.ListN.{get_or, length, replicate, length-replicate, get_or-replicate}
use Rattle.model.specs.Limits.{max_price}
use Rattle.model.specs.Numbers.{answer_of_verdict}
use Rattle.model.specs.market.Market.{bid_at}
use Rattle.model.specs.places.Bids.{squared_distance, bid_between, Places, guests_placed, stations_placed}
use Rattle.model.specs.places.Bids.{placed_bid, placed_bids}
use Rattle.model.specs.clauses.EntryPoints.{placing}
use Rattle.model.specs.claims.Places.{NearerNeverLowers, PlacesWithinLimits, Placed, PlacedExists}
use Rattle.model.specs.claims.Places.{PlacedBidsAreRead}
use Rattle.model.specs.claims.Places.{PlacedWithinPrice, PlacedNearerNeverLowers, without_bids}
use Rattle.model.specs.claims.Places.{PlacedMarketAccepted}
use Rattle.std.specs.Prelude.{Ok}
use Rattle.model.proofs.Promises.{keeps_accepted, was_accepted}
use Rattle.model.proofs.market.Acceptance.{exchanged}
use Rattle.model.proofs.sheet.Joined.{joined_length, get_d_joined, joined_most}
use Rattle.model.proofs.places.Acceptance.{placing_accepted_iff_within_limits}
use Rattle.model.proofs.places.Walks.{walk_mono}

pub nearer_never_lowers : NearerNeverLowers
unfolding bid_between
nearer_never_lowers price fall guest station guest' station' l =
    omega (
      arith,
      mul-le-mul_left fall
          (walk_mono (squared_distance guest station) (squared_distance guest' station') l),
    )

-- ---- what an accepted call left

module _ (p : Places) (bids : List ℕ) (c : Placed p bids) where
  limits : PlacesWithinLimits p (length c.entry)
  unfolding placing
  limits = (placing_accepted_iff_within_limits p (length c.entry)).0 (was_accepted c.called c.accepts).0

  bids_are : bids ≡ placed_bids p
  unfolding placing
  bids_are = (was_accepted c.called c.accepts).2

  bids_long : length bids ≡ guests_placed p * stations_placed p
  unfolding placed_bids
  bids_long = ap length bids_are ∙ joined_length (guests_placed p) (stations_placed p) (placed_bid p)

  bid_is :
      (i j : ℕ) → i < guests_placed p → j < stations_placed p
      → get_or bids (i * stations_placed p + j) 0 ≡ placed_bid p i j
  unfolding placed_bids
  bid_is i j li lj =
      ap (λ l. get_or l (i * stations_placed p + j) 0) bids_are
      ∙ get_d_joined (guests_placed p) (stations_placed p) (placed_bid p) i j li lj

  within_price :
      (i j : ℕ) → i < guests_placed p → j < stations_placed p
      → get_or bids (i * stations_placed p + j) 0 ≤ get_or p.prices i 0
  unfolding placed_bid bid_between
  within_price i j li lj = rw (bid_is i j li lj) (omega arith)

  bid_most : (k : ℕ) → k < length bids → get_or bids k 0 ≤ max_price
  unfolding placed_bids
  bid_most k l =
      rw bids_are (joined_most (guests_placed p) (stations_placed p) (placed_bid p) max_price (λ i j li lj.
      le_trans (rw (bid_is i j li lj) at (within_price i j li lj)) (limits.price_most i li)) k (rw bids_are at l))

-- ---- there is such a call

pub placed_exists : PlacedExists
unfolding placing answer_of_verdict
placed_exists p w =
    let room : List ℕ = replicate (guests_placed p * stations_placed p) 0 in
    let v = (placing_accepted_iff_within_limits p (length room)).1
    (rw (length-replicate {A = ℕ} (guests_placed p * stations_placed p) 0) w) in
    record { entry = room; answer = Ok tt; called = keeps_accepted v refl refl; accepts = refl }

-- ---- the statements

pub placed_bids_are_read : PlacedBidsAreRead
unfolding bid_at
placed_bids_are_read p t c e i j li lj = rw e (bid_is p t.bids c i j li lj)

pub placed_within_price : PlacedWithinPrice
placed_within_price = within_price

pub placed_nearer_never_lowers : PlacedNearerNeverLowers
unfolding placed_bid
placed_nearer_never_lowers p p' bids bids' c c' i j i' j' li lj li' lj' price fall near =
    rw (bid_is p bids c i j li lj, bid_is p' bids' c' i' j' li' lj', price, fall)
    (nearer_never_lowers _ _ _ _ _ _ near)

pub placed_market_accepted : PlacedMarketAccepted
unfolding without_bids
placed_market_accepted p t c = (
  (λ a. exchanged t (replicate (length t.bids) 0) as_long
      (λ k l. omega (arith, get_or-replicate {A = ℕ} (length t.bids) k 0 0 (omega (arith, as_long)))) a),
  exchanged (without_bids t) t.bids (sym as_long) (bid_most p t.bids c),
)
  where
    as_long : length (replicate {A = ℕ} (length t.bids) 0) ≡ length t.bids
    as_long = length-replicate {A = ℕ} (length t.bids) 0
