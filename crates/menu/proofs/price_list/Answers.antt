use Rattle.std.proofs.lemmas.Result.{err_from_is_err_and}
use Rattle.model.specs.Numbers.{answer_of_verdict}
use Rattle.model.specs.clauses.EntryPoints.{listing}
use Rattle.model.specs.market.Menus.{listing_faults}
use Rattle.model.proofs.ByNumber.{keeps_unnamed, keeps_named}
use Rattle.menu.specs.Accepted.{listing_under}
use Rattle.menu.proofs.price_list.Goals as goal

pub returns-in_err-known : goal.returns-in_err-known
unfolding listing listing_under listing_faults answer_of_verdict
returns-in_err-known c =
    let a = c.args in
    let p = err_from_is_err_and c.from_residual.result c.from_residual.ensures.1 in
    rw (p.1, p.2) (keeps_unnamed (λ r. listing_under r a.market.now a.guest) a.rule c.in_err-known.ensures)

pub returns : goal.returns
unfolding listing listing_under listing_faults
returns c =
    let a = c.args in
    keeps_named (λ r. listing_under r a.market.now a.guest) a.rule c.in_ok-known.ensures c.list_under.ensures
