use mathlib.Core.Path.{sym}
use Rattle.model.specs.Limits.{max_guests}
use Rattle.model.specs.market.Market.{regular}
use Rattle.model.proofs.Loops.{zeros_long}
use Rattle.pricing.proofs.cut.CutAsk.{cut_low}
use Rattle.allocation.proofs.assignment.Assignment.{at_cut}
use Rattle.allocation.proofs.assignment.Results.{stations_count, stations_low}
use Rattle.clearing.proofs.Answers.{clears_accepted, of_mechanism}
use Rattle.clearing.proofs.accepted.clear_with_bars.Goals as goal

pub least_charges-requires-clause-least_len : goal.least_charges-requires-clause-least_len
least_charges-requires-clause-least_len c = (
  sym (zeros_long max_guests _ c.market.invariant.shape.guests_most),
  cut_low _ (regular _ _ _ _ _) _ c.market.invariant c.cut-cut.ensures,
)

pub assign_by-requires-clause-at_cut : goal.assign_by-requires-clause-at_cut
assign_by-requires-clause-at_cut c =
    rw (← c.market.view_is)
    (at_cut _ (regular _ _ _ _ _) c.market.invariant c.cut-cut.ensures c.least_charges.ensures)

pub sell-requires-clause-sellable : goal.sell-requires-clause-sellable
sell-requires-clause-sellable c =
    let done = rw (← c.market.view_is) at c.assign_by.ensures.0 in record {
      stations_long = stations_count (regular _ _ _ _ _) _ (of_mechanism _ _ _) done;
      few = c.market.invariant.shape.guests_most;
      amounts_low = c.market.invariant.amount_most;
      numbers = stations_low (regular _ _ _ _ _) _ (of_mechanism _ _ _) done c.market.invariant;
    }

pub returns-clause-clears : goal.returns-clause-clears
returns-clause-clears c =
    let fits = rw (← c.market.view_is) at c.requires.right_lengths in
    let done = rw (← c.market.view_is) at c.assign_by.ensures.0 in
    rw (← c.market.view_is)
    (clears_accepted _ _ (regular _ _ _ _ _) _ c.cut-cut.ensures done
    (at_cut _ (regular _ _ _ _ _) c.market.invariant c.cut-cut.ensures c.least_charges.ensures) fits.sold_long
    c.sell.ensures c.margin-margin.ensures)
