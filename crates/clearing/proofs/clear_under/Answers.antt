use Rattle.std.proofs.lemmas.Result.{err_from_is_err_and}
use Rattle.clearing.proofs.Answers.{refused_clears, accepted_clears, lists_fit}
use Rattle.clearing.proofs.clear_under.Goals as goal

pub returns-in_err-accepted : goal.returns-in_err-accepted
returns-in_err-accepted c =
    let p = err_from_is_err_and c.from_residual.result c.from_residual.ensures.1 in
    rw (p.1, p.2) (refused_clears _ _ _ _ c.in_err-accepted.ensures.fault)

pub clear_accepted-requires : goal.clear_accepted-requires
clear_accepted-requires c = lists_fit _ _ _ c.in_ok-accepted.ensures.fault c.in_ok-accepted.ensures.same

pub returns : goal.returns
returns c =
    accepted_clears _ _ _ _ _ c.in_ok-accepted.ensures.fault c.in_ok-accepted.ensures.same c.clear_accepted.ensures
