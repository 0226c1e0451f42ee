use mathlib.Core.Path.{sym, subst}
use Rattle.model.specs.claims.Meaning.{WithinLimits}
use Rattle.model.proofs.market.Acceptance.{accepted_iff_within_limits}
use Rattle.checks.proofs.Accepted.{regular_shown}
use Rattle.checks.proofs.faults.accepted.Goals as goal

pub invariant_of-result : goal.invariant_of-result
invariant_of-result c =
    subst WithinLimits (sym (regular_shown c.market.view_is c.requires c.bids_through_view.ensures))
    ((accepted_iff_within_limits _).0 c.requires)

pub returns : goal.returns
returns c = regular_shown c.market.view_is c.requires c.bids_through_view.ensures
