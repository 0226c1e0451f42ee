use mathlib.Core.Path.{refl, sym}
use Rattle.std.proofs.lemmas.Result.{err_from_is_err_and}
use Rattle.model.specs.Limits.{max_guests}
use Rattle.model.specs.market.Market.{regular}
use Rattle.model.proofs.Loops.{zeros_long}
use Rattle.explain.proofs.Answers.{refused_explains, accepted_explains, codes_fit}
use Rattle.explain.proofs.explained.explained_under.Goals as goal

pub returns-in_err-accepted : goal.returns-in_err-accepted
returns-in_err-accepted c =
    let p = err_from_is_err_and c.from_residual.result c.from_residual.ensures.1 in
    rw (p.1, p.2) (refused_explains _ _ _ _ _ c.in_err-accepted.ensures.fault)

pub explain_accepted-requires : goal.explain_accepted-requires
explain_accepted-requires c =
    let long = sym (zeros_long max_guests _ c.accepted.invariant.shape.guests_most) in
    let fault = rw (← c.accepted.view_is) at c.in_ok-accepted.ensures.fault in
    let same = rw (← c.accepted.view_is) at c.in_ok-accepted.ensures.same in
    rw (← c.accepted.view_is) (codes_fit _ _ _ _ fault same, long, long, long)

pub returns : goal.returns
returns c =
    let fault = rw (← c.accepted.view_is) at c.in_ok-accepted.ensures.fault in
    let same = rw (← c.accepted.view_is) at c.in_ok-accepted.ensures.same in
    accepted_explains _ _ (regular _ _ _ _ _) _ _ fault same
    (rw (← c.accepted.view_is) at c.explain_accepted.ensures) _ refl refl refl refl
