use mathlib.Core.Path.{refl, sym}
use Rattle.std.proofs.lemmas.Result.{err_from_is_err_and}
use Rattle.explain.proofs.Answers.{told_under}
use Rattle.model.specs.Limits.{max_bids}
use Rattle.model.proofs.Loops.{zeros_long}
use Rattle.model.proofs.market.Acceptance.{product_fits}
use Rattle.report.proofs.reasons.Reasons.{tried_unexplained, tried_explained}
use Rattle.report.proofs.printing.print_reasons.Goals as goal

pub reasons_text-requires : goal.reasons_text-requires
reasons_text-requires c = (told_under _ _ _ _ _ c.in_ok-told.ensures).0

pub returns-in_err-told : goal.returns-in_err-told
returns-in_err-told c =
    let p = err_from_is_err_and c.from_residual.result c.from_residual.ensures.1 in
    let counts = rw (← c.market.view_is) at c.requires in
    rw (p.1, p.2)
    (tried_unexplained _ _ _ _ _
    (rw (← c.market.view_is) (sym (zeros_long max_bids _ (product_fits _ _ counts.0 counts.1))))
    (rw (← c.market.view_is) refl) _ _ c.in_err-told.ensures)

pub returns : goal.returns
returns c =
    let counts = rw (← c.market.view_is) at c.requires in
    tried_explained _ _ _ _ _
    (rw (← c.market.view_is) (sym (zeros_long max_bids _ (product_fits _ _ counts.0 counts.1))))
    (rw (← c.market.view_is) refl) _ c.in_ok-told.ensures c.reasons_text.ensures
