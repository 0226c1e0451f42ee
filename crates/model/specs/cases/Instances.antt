-- One worked instance, with its numbers, of each statement of claims/Truth.antt, and the one by which guests lose the
-- first of them in efficient rounds, under either rule; the others under rule 1.
use Rattle.std.specs.Prelude.{[], ◌∷◌, ◌≡◌, pos, negsuc, ◌≤ℤ◌}
use Rattle.model.specs.Counting.{sum}
use Rattle.model.specs.market.Market.{Tables, bid_at}
use Rattle.model.specs.market.Mechanism.{charged, paid, margin}
use Rattle.model.specs.market.Outcome.{screened, decision, efficient_decision}
use Rattle.model.specs.market.Faults.{Accepted}
use Rattle.model.specs.market.Gains.{guest_gain, station_gain}
use Rattle.model.specs.market.Menus.{Menu}
use Rattle.model.specs.claims.Truth.{AlikeButForGuest, AlikeButForStation, MenuOf, ClearsWithin}
use Rattle.model.specs.declared.rule.Rule.{Rule}
use Rattle.model.specs.declared.rule.Rule.TheVariants.{Median}
use Rattle.model.specs.cases.Cases.{numbered, pair, case_e, case_g, two}

-- case G, where guest 2 is worth 10 per kWh and bids 14: it takes the bay for 27, and is worth 20
unfoldable pub overbid : Tables
overbid = pair (3 ∷ 2 ∷ []) (9 ∷ 0 ∷ 14 ∷ 0 ∷ [])

pub record GuestInstance : Type 0 where
  pub accepted : Accepted case_g
  pub accepted' : Accepted overbid
  pub alike : AlikeButForGuest case_g overbid 1
  pub truth_gains : guest_gain (screened Median case_g) (decision Median case_g) (bid_at case_g 1) 1 ≡ pos 0
  pub overbid_gains : guest_gain (screened Median overbid) (decision Median overbid) (bid_at case_g 1) 1 ≡ negsuc 6
  pub no_more :
      guest_gain (screened Median overbid) (decision Median overbid) (bid_at case_g 1) 1 ≤ℤ
      guest_gain (screened Median case_g) (decision Median case_g) (bid_at case_g 1) 1

-- station 1 costs 5 and stays closed; asking 1 it opens, and sells at the cut, 3
unfoldable pub costly : Tables
costly = numbered (5 ∷ 3 ∷ []) (1 ∷ 1 ∷ []) (1 ∷ []) (4 ∷ 0 ∷ [])

unfoldable pub underasked : Tables
underasked = numbered (1 ∷ 3 ∷ []) (1 ∷ 1 ∷ []) (1 ∷ []) (4 ∷ 0 ∷ [])

pub record StationInstance : Type 0 where
  pub accepted : Accepted costly
  pub accepted' : Accepted underasked
  pub alike : AlikeButForStation costly underasked 0
  pub truth_gains : station_gain (screened Median costly) (decision Median costly) 5 0 ≡ pos 0
  pub underasked_gains : station_gain (screened Median underasked) (decision Median underasked) 5 0 ≡ negsuc 1
  pub no_more :
      station_gain (screened Median underasked) (decision Median underasked) 5 0 ≤ℤ
      station_gain (screened Median costly) (decision Median costly) 5 0

-- guest 2's menu in case G: station 1 for 27, from a total of 28 on, since guest 1 wins a tie
pub record MenuInstance : Type 0 where
  pub menu : Menu
  pub is_menu : MenuOf Median case_g 1 menu
  pub bar_is : menu.bar 0 ≡ 28
  pub price_is : menu.price 0 ≡ 27

-- case E: charges 24, payments 18, margin 6
pub record LimitsInstance : Type 0 where
  pub within : ClearsWithin Median case_e (decision Median case_e)
  pub charges_are : sum 2 (charged (screened Median case_e) (decision Median case_e)) ≡ 24
  pub payments_are : sum 2 (paid (screened Median case_e) (decision Median case_e)) ≡ 18
  pub margin_is : margin (screened Median case_e) (decision Median case_e) ≡ 6

-- by the efficient mechanism: guest 1, worth 2 at stations 1 and 2, has station 1 for 2, since guest 2 finds it full;
-- without its bid there it has station 2 for the cut, 1
unfoldable pub contested : Tables
contested = two (2 ∷ 2 ∷ 0 ∷ 0 ∷ 2 ∷ 0 ∷ 0 ∷ 0 ∷ [])

unfoldable pub withheld : Tables
withheld = two (0 ∷ 2 ∷ 0 ∷ 0 ∷ 2 ∷ 0 ∷ 0 ∷ 0 ∷ [])

pub record EfficientGuestInstance (rule : Rule) : Type 0 where
  pub accepted : Accepted contested
  pub accepted' : Accepted withheld
  pub alike : AlikeButForGuest contested withheld 0
  pub truth_gains :
      guest_gain (screened rule contested) (efficient_decision rule contested) (bid_at contested 0) 0 ≡ pos 0
  pub withheld_gains :
      guest_gain (screened rule withheld) (efficient_decision rule withheld) (bid_at contested 0) 0 ≡ pos 1
