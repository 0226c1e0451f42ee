use Rattle.std.proofs.lemmas.Result.{err_from_is_err_and}
use Rattle.model.specs.Numbers.{answer_of_trying}
use Rattle.model.specs.market.Changes.{trying_faults}
use Rattle.model.specs.clauses.EntryPoints.{trying}
use Rattle.model.proofs.ByNumber.{keeps_unnamed, keeps_named}
use Rattle.whatif.specs.Tried.{trying_under}
use Rattle.whatif.proofs.try_row.Goals as goal

pub returns-in_err-known : goal.returns-in_err-known
unfolding trying trying_under trying_faults answer_of_trying
returns-in_err-known c =
    let a = c.args in
    let p = err_from_is_err_and c.from_residual.result c.from_residual.ensures.1 in
    rw (p.1, p.2) (keeps_unnamed (λ r. trying_under r a.market.now a.guest a.worths.now a.row.now) a.rule
    c.in_err-known.ensures)

pub returns : goal.returns
unfolding trying trying_under trying_faults
returns c =
    let a = c.args in
    keeps_named (λ r. trying_under r a.market.now a.guest a.worths.now a.row.now) a.rule c.in_ok-known.ensures
    c.try_under.ensures
