use mathlib.Core.Path.{refl}
use Rattle.std.proofs.lemmas.Result.{err_from_is_err_and}
use Rattle.report.proofs.Sheets.{tables_read, tried_fault, tried_market, same_tables}
use Rattle.report.proofs.try_page.Goals as goal

pub returns-in_err-guests : goal.returns-in_err-guests
returns-in_err-guests c =
    let p = err_from_is_err_and c.from_residual.result c.from_residual.ensures.1 in
    rw (p.1, p.2) (tried_fault _ _ _ _ _ _ _ c.in_err-guests.ensures.read refl refl refl refl refl)

pub returns : goal.returns
returns c =
    let t = tables_read _ _ _ _ _ c.read_as.ensures.read _ c.in_ok-guests.was in
    tried_market _ _ _ _ _ _ _ _ t.reads (same_tables t) c.print_market.ensures
