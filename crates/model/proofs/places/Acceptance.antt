-- What an accepted call that places bids comes to, row by row.
use Prim.Native.Nat.{ℕ}
use mathlib.Core.Path.{◌≡◌}
use native.Mathlib.Omega.{arith}
use lib.ListN.{length}
use Rattle.model.specs.Limits.{max_cell, max_price}
use Rattle.model.specs.Verdicts.{accepted, first_fault}
use Rattle.model.specs.market.Faults.{counts}
use Rattle.model.specs.places.Bids.{Places, guests_placed, stations_placed, guest_cell, station_cell}
use Rattle.model.specs.places.Faults.{place_lengths, place_values, placing_faults}
use Rattle.model.specs.claims.Places.{PlacesWithinLimits, PlacingAcceptedIffWithinLimits}
use Rattle.model.proofs.Tests.{or_no, neither, not_lt, not_eq}
use Rattle.model.proofs.Counting.{none_any}
use Rattle.model.proofs.Verdicts.{fault_none, no_fault, fault_free}
use Rattle.model.proofs.market.Acceptance.{counted, all_inside, not_outside, equal, not_unequal}

within : (p : Places) (bids : ℕ) → first_fault (placing_faults p bids) ≡ accepted tt → PlacesWithinLimits p bids
unfolding placing_faults counts place_lengths place_values guest_cell station_cell
within p bids e =
    let (c, e1) = no_fault _ _ _ e in
    let (l, e2) = no_fault _ _ _ e1 in
    let (cells, e3) = no_fault _ _ _ e2 in
    let (stated, e4) = no_fault _ _ _ e3 in
    let k = counted (guests_placed p) (stations_placed p) c in
    let (l0123, bids_long) = or_no _ _ l in
    let (l012, station_second_lem) = or_no _ _ l0123 in
    let (l01, guest_second_lem) = or_no _ _ l012 in
    let (prices_long, falls_long) = or_no _ _ l01 in
    let (c012, second') = or_no _ _ cells in
    let (c01, first') = or_no _ _ c012 in
    let (first, second) = or_no _ _ c01 in
    let (prices, falls) = or_no _ _ stated in
    let guests : length p.guest_second ≡ guests_placed p = equal _ _ guest_second_lem in
    let stations : length p.station_second ≡ stations_placed p = equal _ _ station_second_lem in
    let priced : length p.prices ≡ guests_placed p = equal _ _ prices_long in
    let falling : length p.falls ≡ guests_placed p = equal _ _ falls_long in
    record {
      guests_most = k.0;
      stations_least = k.1;
      stations_most = k.2;
      prices_length = priced;
      falls_length = falling;
      guest_second_length = guests;
      station_second_length = stations;
      bids_length = equal _ _ bids_long;
      guest_on_grid = λ i l. record {
        first_most = (all_inside _ _ _ first i l).1;
        second_most = (all_inside _ _ _ second i (omega arith)).1;
      };
      station_on_grid = λ j l. record {
        first_most = (all_inside _ _ _ first' j l).1;
        second_most = (all_inside _ _ _ second' j (omega arith)).1;
      };
      price_most = λ i l. (all_inside _ _ _ prices i (omega arith)).1;
      fall_most = λ i l. (all_inside _ _ _ falls i (omega arith)).1;
    }

accept : (p : Places) (bids : ℕ) → PlacesWithinLimits p bids → first_fault (placing_faults p bids) ≡ accepted tt
unfolding placing_faults counts place_lengths place_values guest_cell station_cell
accept p bids w =
    fault_free _ _ (neither
    (neither (not_lt _ _ w.guests_most) (not_eq (stations_placed p) 0 (λ q. omega (arith, w.stations_least))))
    (not_lt _ _ w.stations_most))
    (fault_free _ _ (neither (neither (neither
    (neither (not_unequal _ _ w.prices_length) (not_unequal _ _ w.falls_length))
    (not_unequal _ _ w.guest_second_length)) (not_unequal _ _ w.station_second_length))
    (not_unequal _ _ w.bids_length))
    (fault_free _ _ (neither (neither (neither
    (none_any p.guest_first _ (λ i l. not_outside 0 max_cell _ (omega arith) (w.guest_on_grid i l).first_most))
    (none_any p.guest_second _ (λ i l. not_outside 0 max_cell _ (omega arith)
    (w.guest_on_grid i (omega (arith, w.guest_second_length))).second_most)))
    (none_any p.station_first _ (λ j l. not_outside 0 max_cell _ (omega arith) (w.station_on_grid j l).first_most)))
    (none_any p.station_second _ (λ j l. not_outside 0 max_cell _ (omega arith)
    (w.station_on_grid j (omega (arith, w.station_second_length))).second_most)))
    (fault_free _ _ (neither
    (none_any p.prices _ (λ i l. not_outside 0 max_price _ (omega arith)
    (w.price_most i (omega (arith, w.prices_length)))))
    (none_any p.falls _ (λ i l. not_outside 0 max_price _ (omega arith)
    (w.fall_most i (omega (arith, w.falls_length))))))
    fault_none)))

pub placing_accepted_iff_within_limits : PlacingAcceptedIffWithinLimits
placing_accepted_iff_within_limits p bids = (within p bids, accept p bids)
