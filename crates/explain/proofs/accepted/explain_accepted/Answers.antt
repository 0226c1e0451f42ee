use Prim.Native.Nat.{ℕ, ◌+◌}
use mathlib.Core.Path.{sym}
use lib.ListN.{length-replicate}
use Rattle.model.specs.Limits.{max_guests, max_stations}
use Rattle.model.specs.market.Market.{regular}
use Rattle.model.proofs.Loops.{zeros, zeros_long}
use Rattle.pricing.proofs.cut.CutAsk.{cut_low}
use Rattle.allocation.proofs.assignment.Assignment.{at_cut}
use Rattle.explain.proofs.Answers.{explains_accepted}
use Rattle.explain.proofs.accepted.explain_accepted.Goals as goal

pub least_charges-requires-clause-least_len : goal.least_charges-requires-clause-least_len
least_charges-requires-clause-least_len c = (
  sym (zeros_long max_guests _ c.market.invariant.shape.guests_most),
  cut_low _ (regular _ _ _ _ _) _ c.market.invariant c.cut-cut.ensures,
)

pub assign_with_bars-requires-clause-at_cut : goal.assign_with_bars-requires-clause-at_cut
assign_with_bars-requires-clause-at_cut c =
    rw (← c.market.view_is)
    (at_cut _ (regular _ _ _ _ _) c.market.invariant c.cut-cut.ensures c.least_charges.ensures)

pub assign_with_bars-requires-clause-criticals_value : goal.assign_with_bars-requires-clause-criticals_value
assign_with_bars-requires-clause-criticals_value c =
    (zeros (max_stations + 1), length-replicate {A = ℕ} (max_stations + 1) 0)

pub returns : goal.returns
returns c =
    rw (← c.market.view_is)
    (explains_accepted _ (regular _ _ _ _ _) c.cut-cut.ensures
    (rw (← c.market.view_is) at c.assign_with_bars.ensures.0)
    (rw (← c.market.view_is) at c.explain_rows.ensures))
