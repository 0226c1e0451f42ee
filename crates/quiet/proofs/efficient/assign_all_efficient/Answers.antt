use Rattle.std.proofs.Common.{subst}
use Rattle.model.specs.claims.Meaning.{WithinLimits}
use Rattle.model.specs.Limits.{max_guests}
use Rattle.model.proofs.Loops.{zeros, zeros_are}
use Rattle.model.proofs.market.Outcomes.{of_stable}
use Rattle.quiet.proofs.seats.Listing.{keys}
use Rattle.allocation.proofs.assignment.Assignment.{chargeable, assigned}
use Rattle.quiet.proofs.efficient.Decides.{stably}
use Rattle.quiet.proofs.efficient.Start.{none_called}
use Rattle.quiet.proofs.efficient.assign_all_efficient.Goals as goal

pub assign_efficient-requires : goal.assign_efficient-requires
assign_efficient-requires c =
    let within = c.market.invariant in
    record {
      called = rw (← c.market.view_is) (none_called _ within (zeros_are max_guests _ within.shape.guests_most) _);
      criticals_value = zeros _;
    }

pub charge_guests-requires : goal.charge_guests-requires
charge_guests-requires c =
    let within = subst WithinLimits c.market.view_is c.market.invariant in
    let done = rw (← c.seating.view_is) at c.assign_efficient.ensures in
    chargeable _ c.requires.at_cut (of_stable _ _ (keys _ _ within) done.stable)
    (stably _ within done) within c.requires.stations_len.0 c.requires.stations_len.1

pub returns : goal.returns
returns c =
    let within = subst WithinLimits c.market.view_is c.market.invariant in
    let done = rw (← c.seating.view_is) at c.assign_efficient.ensures in
    assigned _ c.requires.at_cut (of_stable _ _ (keys _ _ within) done.stable) (stably _ within done)
    c.charge_guests.ensures
