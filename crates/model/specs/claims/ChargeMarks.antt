-- Request 14: the charge marks where a place is lost. Each statement is a type; its proof is a term of proofs/.
use Rattle.std.specs.Prelude.{ℕ, ◌*◌, ◌≤◌, ◌<◌, true, ◌↔◌, ◌⊎◌, ◌≡◌, get_or, length}
use Rattle.model.specs.Limits.{max_price}
use Rattle.model.specs.market.Market.{Tables, bid_at, queue, first_out, critical}
use Rattle.model.specs.market.Faults.{Accepted}
use Rattle.model.specs.market.Rules.{position, rule_of}
use Rattle.model.specs.market.Marking.{Submission}
use Rattle.model.specs.market.Changes.{with_bid}
use Rattle.model.specs.claims.Truth.{AlikeButForGuest, screened_by, HoldsPlace, charge_at}
use Rattle.model.specs.claims.Marking.{FullyCleared, given, place_in, charge_in}
use Rattle.model.specs.declared.rule.Rule.{Rule}

-- how `with_bid` reads: that bid is replaced, and no other; asks, bays, amounts and tickets are those of t
pub record BidReplaced (t : Tables) (i j bid : ℕ) : Type 0 where
  pub replaced : bid_at (with_bid t i j bid) i j ≡ bid
  pub same_elsewhere :
      (k l : ℕ) → k < length t.amounts → l < length t.asks → ((k ≡ i) × (l ≡ j) → ⊥)
      → bid_at (with_bid t i j bid) k l ≡ bid_at t k l
  pub alike : AlikeButForGuest t (with_bid t i j bid) i

abbrev pub WithBidReplacesBid : Type 0
WithBidReplacesBid =
    (t : Tables) (i j bid : ℕ) → i < length t.amounts → j < length t.asks → BidReplaced t i j bid

-- the critical total at station j (document 02: its floor), under a rule for the position of the cut
abbrev pub critical_at : (rule : ℕ → ℕ) → Tables → (j : ℕ) → ℕ
critical_at rule t j = critical (queue (screened_by rule t) j)

-- guest i's ticket is lower than that of a guest of whom this is said
abbrev pub TicketBelow : Tables → (said : ℕ → Type 0) (i : ℕ) → Type 0
TicketBelow t said i =
    (k : ℕ) × (k < length t.amounts) × said k × (get_or t.tickets i 0 < get_or t.tickets k 0)

-- than that of the first candidate without a place at station j
abbrev pub BeforeFirstOut : (rule : ℕ → ℕ) → Tables → (i j : ℕ) → Type 0
BeforeFirstOut rule t i j = TicketBelow t (λ k. first_out (queue (screened_by rule t) j) k ≡ true) i

-- with this bid of guest i at station j, and all else as it was: the market is accepted; a total above the charge keeps
-- the place; one below it loses the place; one that equals it keeps the place exactly where, before the change, the
-- critical total is below the charge or i's ticket is lower than that of the first candidate without a place
pub record MarksPlace (rule : ℕ → ℕ) (t : Tables) (i j bid : ℕ) : Type 0 where
  pub still_accepted : Accepted (with_bid t i j bid)
  pub above_keeps : charge_at rule t i j < bid * get_or t.amounts i 0 → HoldsPlace rule (with_bid t i j bid) i j
  pub below_loses : bid * get_or t.amounts i 0 < charge_at rule t i j → HoldsPlace rule (with_bid t i j bid) i j → ⊥
  pub equal_decides :
      bid * get_or t.amounts i 0 ≡ charge_at rule t i j
      → HoldsPlace rule (with_bid t i j bid) i j
      ↔ ((critical_at rule t j < charge_at rule t i j) ⊎ BeforeFirstOut rule t i j)

-- for every place held in an accepted market, whether its guest is assigned there or not, and every bid within its
-- limit
abbrev pub ChargeMarksPlaceBy : (rule : ℕ → ℕ) → Type 0
ChargeMarksPlaceBy rule =
    (t : Tables) (i j bid : ℕ) → Accepted t → i < length t.amounts → j < length t.asks → HoldsPlace rule t i j
    → bid ≤ max_price → MarksPlace rule t i j bid

-- at any position of the cut that depends on the number of stations alone, so under each rule
abbrev pub ChargeMarksPlace : Type 0
ChargeMarksPlace = (rule : ℕ → ℕ) → ChargeMarksPlaceBy rule

abbrev pub ChargeMarksPlaceUnder : Type 0
ChargeMarksPlaceUnder = (rule : Rule) → ChargeMarksPlaceBy (position rule)

-- ---- over calls of `clear_marked` on both markets

-- by what a call gave: guest k is a candidate without a place at station j, and its total there is the floor
pub record OutAtFloor (t : Tables) (s : Submission) (k j : ℕ) : Type 0 where
  pub open_ask : get_or t.asks j 0 < s.cut
  pub bid_reaches : s.cut ≤ bid_at t k j
  pub no_place : place_in t s.lists k j ≡ 0
  pub at_floor : bid_at t k j * get_or t.amounts k 0 ≡ get_or s.lists.floors j 0

-- and has the lowest ticket of those: it is the first candidate without a place
pub record FirstOutIn (t : Tables) (s : Submission) (k j : ℕ) : Type 0 where
  pub out : OutAtFloor t s k j
  pub lowest :
      (l : ℕ) → l < length t.amounts → OutAtFloor t s l j → get_or t.tickets k 0 ≤ get_or t.tickets l 0

abbrev pub FirstOutShown : Type 0
FirstOutShown =
    (rule : ℕ) (t : Tables) (c : FullyCleared rule t) (k j : ℕ) → k < length t.amounts → j < length t.asks
    → FirstOutIn t (given c) k j ↔ (first_out (queue (screened_by (position (rule_of rule)) t) j) k ≡ true)

-- s is what a call gave before the change, where guest i has a place at station j, and s' after it: places, cut, floors
-- and tickets tell what becomes of the place
pub record MarksPlaceInCalls (t : Tables) (i j bid : ℕ) (s s' : Submission) : Type 0 where
  pub above_keeps :
      charge_in t s i j < bid * get_or t.amounts i 0 → place_in (with_bid t i j bid) s'.lists i j ≡ 1
  pub below_loses :
      bid * get_or t.amounts i 0 < charge_in t s i j → place_in (with_bid t i j bid) s'.lists i j ≡ 0
  pub equal_decides :
      bid * get_or t.amounts i 0 ≡ charge_in t s i j
      → (place_in (with_bid t i j bid) s'.lists i j ≡ 1)
      ↔ ((get_or s.lists.floors j 0 < charge_in t s i j) ⊎ TicketBelow t (λ k. FirstOutIn t s k j) i)

abbrev pub ChargeMarksPlaceCalls : Type 0
ChargeMarksPlaceCalls =
    (rule : ℕ) (t : Tables) (i j bid : ℕ) (c : FullyCleared rule t) (c' : FullyCleared rule (with_bid t i j bid))
    → i < length t.amounts → j < length t.asks → place_in t c.exit i j ≡ 1
    → MarksPlaceInCalls t i j bid (given c) (given c')
