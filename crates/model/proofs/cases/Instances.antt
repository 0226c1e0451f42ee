-- The worked instances: the theorems at numbers, and the numbers by computation.
use Prim.Native.Nat.{ℕ, zero, suc, ◌<◌}
use mathlib.Core.Path.{◌≡◌, refl}
use native.Mathlib.Omega.{arith}
use lib.IntN.{pos, negsuc}
use lib.ListN.{get_or}
use lib.Signed.{◌≤ℤ◌}
use Rattle.model.specs.Counting.{sum}
use Rattle.model.specs.market.Market.{bid_at, market, first_out}
use Rattle.model.specs.declared.rule.Rule.{Rule}
use Rattle.model.specs.declared.rule.Rule.TheVariants.{Median, TwoThirds}
use Rattle.model.specs.market.Mechanism.{charged, paid, margin}
use Rattle.model.specs.market.Outcome.{screened, decision, efficient_decision}
use Rattle.model.specs.market.Faults.{Accepted}
use Rattle.model.specs.market.Menus.{rivals, loses_tie, menu_of}
use Rattle.model.specs.market.Gains.{guest_gain, station_gain}
use Rattle.model.specs.claims.Truth.{AlikeButForGuest, AlikeButForStation}
use Rattle.model.specs.claims.Efficient.{EfficientNotGuestTruthful}
use Rattle.model.specs.cases.Cases.{pair, case_e, case_g, two}
use Rattle.model.specs.cases.Instances.{overbid, GuestInstance, costly, underasked, StationInstance, MenuInstance}
use Rattle.model.specs.cases.Instances.{LimitsInstance, contested, withheld, EfficientGuestInstance}
use Rattle.model.proofs.cases.Computing.{clearing_computes, efficient_computes}
use Rattle.model.proofs.claims.Truth.{guest_truthful_under, station_truthful_under, menu_of_lem, clearing_limits}

-- the numbers
pub record Numbers : Type 0 where
  pub accepted_G : Accepted case_g
  pub accepted_overbid : Accepted overbid
  pub accepted_costly : Accepted costly
  pub accepted_underasked : Accepted underasked
  pub accepted_E : Accepted case_e
  pub GGains : guest_gain (screened Median case_g) (decision Median case_g) (bid_at case_g 1) 1 ≡ pos 0
  pub overbid_gains : guest_gain (screened Median overbid) (decision Median overbid) (bid_at case_g 1) 1 ≡ negsuc 6
  pub costly_gains : station_gain (screened Median costly) (decision Median costly) 5 0 ≡ pos 0
  pub underasked_gains : station_gain (screened Median underasked) (decision Median underasked) 5 0 ≡ negsuc 1
  pub bar_is : (menu_of (market Median case_g) 1).bar 0 ≡ 28
  pub price_is : (menu_of (market Median case_g) 1).price 0 ≡ 27
  pub charges_are : sum 2 (charged (screened Median case_e) (decision Median case_e)) ≡ 24
  pub payments_are : sum 2 (paid (screened Median case_e) (decision Median case_e)) ≡ 18
  pub margin_is : margin (screened Median case_e) (decision Median case_e) ≡ 6

numbers : Numbers
unfolding clearing_computes pair case_e case_g overbid costly underasked first_out rivals loses_tie menu_of
numbers = record {
  accepted_G = refl;
  accepted_overbid = refl;
  accepted_costly = refl;
  accepted_underasked = refl;
  accepted_E = refl;
  GGains = refl;
  overbid_gains = refl;
  costly_gains = refl;
  underasked_gains = refl;
  bar_is = refl;
  price_is = refl;
  charges_are = refl;
  payments_are = refl;
  margin_is = refl;
}

guests_alike : AlikeButForGuest case_g overbid 1
unfolding pair case_g overbid bid_at
guests_alike =
    record { same_asks = refl; same_bays = refl; same_amounts = refl; same_tickets = refl; same_bids = row }
  where
    row : (k j : ℕ) → k < 2 → j < 2 → (k ≡ 1 → ⊥) → bid_at overbid k j ≡ bid_at case_g k j
    row zero zero lk lj n = refl
    row zero (suc zero) lk lj n = refl
    row zero (suc (suc j)) lk lj n = absurd (omega arith)
    row (suc zero) j lk lj n = absurd (n refl)
    row (suc (suc k)) j lk lj n = absurd (omega arith)

stations_alike : AlikeButForStation costly underasked 0
unfolding costly underasked
stations_alike =
    record {
      same_count = refl;
      same_asks = asks;
      same_bays = refl;
      same_amounts = refl;
      same_tickets = refl;
      same_bids = refl;
    }
  where
    asks : (k : ℕ) → k < 2 → (k ≡ 0 → ⊥) → get_or underasked.asks k 0 ≡ get_or costly.asks k 0
    asks zero l n = absurd (n refl)
    asks (suc k) l n = refl

second_of_two : 1 < 2
second_of_two = omega arith

pub guest_instance : GuestInstance
unfolding screened decision market pair case_g
guest_instance = record {
  accepted = numbers.accepted_G;
  accepted' = numbers.accepted_overbid;
  alike = guests_alike;
  truth_gains = numbers.GGains;
  overbid_gains = numbers.overbid_gains;
  no_more = guest_truthful_under Median case_g overbid 1 numbers.accepted_G numbers.accepted_overbid
      second_of_two guests_alike;
}

pub station_instance : StationInstance
unfolding screened decision market costly
station_instance = record {
  accepted = numbers.accepted_costly;
  accepted' = numbers.accepted_underasked;
  alike = stations_alike;
  truth_gains = numbers.costly_gains;
  underasked_gains = numbers.underasked_gains;
  no_more = station_truthful_under Median costly underasked 0 numbers.accepted_costly numbers.accepted_underasked
      (omega arith) stations_alike;
}

pub menu_instance : MenuInstance
unfolding market pair case_g
menu_instance = record {
  menu = menu_of (market Median case_g) 1;
  is_menu = menu_of_lem Median case_g 1 numbers.accepted_G second_of_two;
  bar_is = numbers.bar_is;
  price_is = numbers.price_is;
}

pub limits_instance : LimitsInstance
limits_instance = record {
  within = clearing_limits Median case_e numbers.accepted_E;
  charges_are = numbers.charges_are;
  payments_are = numbers.payments_are;
  margin_is = numbers.margin_is;
}

withheld_alike : AlikeButForGuest contested withheld 0
unfolding contested withheld two bid_at
withheld_alike =
    record { same_asks = refl; same_bays = refl; same_amounts = refl; same_tickets = refl; same_bids = row }
  where
    row : (k j : ℕ) → k < 2 → j < 4 → (k ≡ 0 → ⊥) → bid_at withheld k j ≡ bid_at contested k j
    row zero j lk lj n = absurd (n refl)
    row (suc (suc k)) j lk lj n = absurd (omega arith)
    row (suc zero) zero lk lj n = refl
    row (suc zero) (suc zero) lk lj n = refl
    row (suc zero) (suc (suc zero)) lk lj n = refl
    row (suc zero) (suc (suc (suc zero))) lk lj n = refl
    row (suc zero) (suc (suc (suc (suc j)))) lk lj n = absurd (omega arith)

pub efficient_guest_instance : (rule : Rule) → EfficientGuestInstance rule
unfolding efficient_computes contested withheld two
efficient_guest_instance Median = record {
  accepted = refl;
  accepted' = refl;
  alike = withheld_alike;
  truth_gains = refl;
  withheld_gains = refl;
}
efficient_guest_instance TwoThirds = record {
  accepted = refl;
  accepted' = refl;
  alike = withheld_alike;
  truth_gains = refl;
  withheld_gains = refl;
}

pub efficient_not_guest_truthful : EfficientNotGuestTruthful
unfolding screened efficient_decision market contested two
efficient_not_guest_truthful rule truth =
    let I = efficient_guest_instance rule in
    let no_more : pos 1 ≤ℤ pos 0 = rw (I.truth_gains, I.withheld_gains)
    at (truth contested withheld 0 I.accepted I.accepted' (omega arith) I.alike) in
    no_more.le
