use Rattle.std.proofs.lemmas.Result.{err_from_is_err_and}
use Rattle.marking.proofs.Answers.{unnamed_marks, named_marks}
use Rattle.marking.proofs.mark.Goals as goal

pub returns-in_err-known : goal.returns-in_err-known
returns-in_err-known c =
    let p = err_from_is_err_and c.from_residual.result c.from_residual.ensures.1 in
    rw (p.1, p.2) (unnamed_marks _ _ _ _ c.in_err-known.ensures)

pub returns : goal.returns
returns c = named_marks _ _ _ _ c.in_ok-known.ensures c.mark_under.ensures
