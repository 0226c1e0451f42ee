use Rattle.std.proofs.lemmas.Result.{err_from_is_err_and}
use Rattle.model.specs.Numbers.{answer_of_verdict}
use Rattle.model.specs.clauses.EntryPoints.{gaining}
use Rattle.model.specs.market.Menus.{gaining_faults}
use Rattle.model.proofs.ByNumber.{keeps_unnamed, keeps_named}
use Rattle.menu.specs.Accepted.{gaining_under}
use Rattle.menu.proofs.gains.Goals as goal

pub returns-in_err-known : goal.returns-in_err-known
unfolding gaining gaining_under gaining_faults answer_of_verdict
returns-in_err-known c =
    let a = c.args in
    let p = err_from_is_err_and c.from_residual.result c.from_residual.ensures.1 in
    rw (p.1, p.2) (keeps_unnamed (λ r. gaining_under r a.market.now a.guest a.worths.now a.rows.now) a.rule
    c.in_err-known.ensures)

pub returns : goal.returns
unfolding gaining gaining_under gaining_faults
returns c =
    let a = c.args in
    keeps_named (λ r. gaining_under r a.market.now a.guest a.worths.now a.rows.now) a.rule c.in_ok-known.ensures
    c.gain_under.ensures
