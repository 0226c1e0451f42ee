use Rattle.std.proofs.lemmas.Result.{err_from_is_err_and}
use Rattle.marking.proofs.Answers.{refused_marks, accepted_marks}
use Rattle.marking.proofs.mark_under.Goals as goal

pub returns-in_err-accepted : goal.returns-in_err-accepted
returns-in_err-accepted c =
    let p = err_from_is_err_and c.from_residual.result c.from_residual.ensures.1 in
    rw (p.1, p.2, ← c.submission.view_is) (refused_marks _ _ _ _ c.in_err-accepted.ensures.fault)

pub returns : goal.returns
returns c =
    rw (← c.submission.view_is)
    (accepted_marks _ _ _ _ _ c.in_ok-accepted.ensures.fault c.in_ok-accepted.ensures.same
    (rw (← c.submission.view_is) at c.is_correct.ensures))
