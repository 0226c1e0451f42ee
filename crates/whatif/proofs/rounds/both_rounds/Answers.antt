use mathlib.Core.Path.{sym, ap, ◌∙◌}
use Rattle.model.proofs.Loops.{zeros_long}
use Rattle.pricing.specs.CutAsk.{cut_ask}
use Rattle.pricing.proofs.cut.CutAsk.{cut_low}
use Rattle.allocation.proofs.assignment.Assignment.{at_cut}
use Rattle.whatif.proofs.BothRounds.{assigned_under, at_cut_too}
use Rattle.whatif.proofs.rounds.both_rounds.Goals as goal

pub least_charges-requires-clause-least_len : goal.least_charges-requires-clause-least_len
least_charges-requires-clause-least_len c =
    let w = c.market.invariant in
    (sym (zeros_long _ _ w.shape.guests_most), cut_low _ _ _ w c.cut-cut.ensures)

pub assign_all-requires-clause-at_cut : goal.assign_all-requires-clause-at_cut
assign_all-requires-clause-at_cut c =
    rw (← c.market.view_is) (at_cut _ _ c.market.invariant c.cut-cut.ensures c.least_charges.ensures)

pub assign_all-requires-2-clause-at_cut : goal.assign_all-requires-2-clause-at_cut
assign_all-requires-2-clause-at_cut c =
    at_cut_too c.requires.other.1
    (rw c.market.view_is at (at_cut _ _ c.market.invariant c.cut-cut.ensures c.least_charges.ensures))

pub returns : goal.returns
returns c =
    let cut = c.cut-cut.ensures ∙ ap (λ t. cut_ask c.args.rule t.asks) c.market.view_is in (
      assigned_under _ _ cut c.assign_all.ensures,
      assigned_under _ _ (cut ∙ ap (cut_ask c.args.rule) (sym c.requires.other.0)) c.assign_all-2.ensures,
    )
