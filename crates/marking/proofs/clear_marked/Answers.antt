use Rattle.std.proofs.lemmas.Result.{err_from_is_err_and}
use Rattle.marking.proofs.Answers.{unnamed_clears, named_clears}
use Rattle.marking.proofs.clear_marked.Goals as goal

pub returns-in_err-known : goal.returns-in_err-known
returns-in_err-known c =
    let p = err_from_is_err_and c.from_residual.result c.from_residual.ensures.1 in
    rw (p.1, p.2) (unnamed_clears _ _ _ _ c.in_err-known.ensures)

pub returns : goal.returns
returns c = named_clears _ _ _ _ c.in_ok-known.ensures c.clear_marked_under.ensures
