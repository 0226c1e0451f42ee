use Rattle.std.proofs.lemmas.Result.{err_from_is_err_and}
use Rattle.model.proofs.clauses.Clears.{clear_refused, clear_cleared}
use Rattle.report.proofs.printing.Printing.{tried_refused, tried_cleared}
use Rattle.report.proofs.printing.print_cleared.Goals as goal

pub returns-in_err-figures : goal.returns-in_err-figures
returns-in_err-figures c =
    let l = c.requires.lengths in
    let p = err_from_is_err_and c.from_residual.result c.from_residual.ensures.1 in
    rw (p.1, p.2)
    (tried_refused _ _ _ _ (clear_refused _ _ _ _ _ c.clear_under.ensures
    (record { stations_long = l.0; charges_long = l.1; sold_long = l.2; paid_long = l.3 }) _ c.in_err-figures.was))

pub returns : goal.returns
returns c =
    let l = c.requires.lengths in
    tried_cleared _ _ _ _ _ _ (clear_cleared _ _ _ _ _ c.clear_under.ensures
    (record { stations_long = l.0; charges_long = l.1; sold_long = l.2; paid_long = l.3 }) _ c.in_ok-figures.was)
    c.requires.counts.0 c.requires.counts.1 c.clearing_text.ensures
