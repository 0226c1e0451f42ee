use mathlib.Core.Path.{refl, sym, ◌∙◌}
use Rattle.std.proofs.lemmas.Result.{err_from_is_err_and}
use Rattle.model.specs.market.Market.{tables}
use Rattle.model.proofs.Loops.{zeros_long}
use Rattle.model.proofs.clauses.Clears.{lengths}
use Rattle.model.proofs.market.Acceptance.{counted}
use Rattle.ledger.proofs.Cleared.{miscounted, clear_refuses, clear_posts}
use Rattle.ledger.proofs.planning.plan_under.Goals as goal

pub returns-then-counts_out_of_range : goal.returns-then-counts_out_of_range
returns-then-counts_out_of_range c =
    rw (← c.market.view_is) (λ k e. miscounted _ k e _ _ c.counts_out_of_range.ensures c.if-counts_out_of_range.true)

pub slice_bounds-seats-end : goal.slice_bounds-seats-end
slice_bounds-seats-end c =
    (counted _ _ (sym c.counts_out_of_range.ensures ∙ c.if-counts_out_of_range.false)).0

pub slice_bounds-clear_under-end : goal.slice_bounds-clear_under-end
slice_bounds-clear_under-end c =
    zeros_long _ _ (counted _ _ (sym c.counts_out_of_range.ensures ∙ c.if-counts_out_of_range.false)).0

pub slice_bounds-charges-end : goal.slice_bounds-charges-end
slice_bounds-charges-end c =
    (counted _ _ (sym c.counts_out_of_range.ensures ∙ c.if-counts_out_of_range.false)).0

pub slice_bounds-clear_under-end-2 : goal.slice_bounds-clear_under-end-2
slice_bounds-clear_under-end-2 c =
    zeros_long _ _ (counted _ _ (sym c.counts_out_of_range.ensures ∙ c.if-counts_out_of_range.false)).0

pub slice_bounds-sold-end : goal.slice_bounds-sold-end
slice_bounds-sold-end c =
    (counted _ _ (sym c.counts_out_of_range.ensures ∙ c.if-counts_out_of_range.false)).2

pub slice_bounds-clear_under-end-3 : goal.slice_bounds-clear_under-end-3
slice_bounds-clear_under-end-3 c =
    zeros_long _ _ (counted _ _ (sym c.counts_out_of_range.ensures ∙ c.if-counts_out_of_range.false)).2

pub slice_bounds-paid-end : goal.slice_bounds-paid-end
slice_bounds-paid-end c =
    (counted _ _ (sym c.counts_out_of_range.ensures ∙ c.if-counts_out_of_range.false)).2

pub slice_bounds-clear_under-end-4 : goal.slice_bounds-clear_under-end-4
slice_bounds-clear_under-end-4 c =
    zeros_long _ _ (counted _ _ (sym c.counts_out_of_range.ensures ∙ c.if-counts_out_of_range.false)).2

pub returns-in_err-figures : goal.returns-in_err-figures
returns-in_err-figures c =
    let p = err_from_is_err_and c.from_residual.result c.from_residual.ensures.1 in
    let few = counted _ _ (sym c.counts_out_of_range.ensures ∙ c.if-counts_out_of_range.false) in
    let m = c.market.inside in
    let long = lengths (tables m.asks.now m.bays.now m.amounts.now m.tickets.now m.bids.now m.width) few.0 few.2 in
    rw (p.1, p.2, ← c.market.view_is) (λ k e. clear_refuses _ k e _ _ _ _
    (rw (← c.market.view_is) at c.clear_under.ensures) long _ c.in_err-figures.was)

pub returns : goal.returns
returns c =
    let few = counted _ _ (sym c.counts_out_of_range.ensures ∙ c.if-counts_out_of_range.false) in
    let m = c.market.inside in
    let long = lengths (tables m.asks.now m.bays.now m.amounts.now m.tickets.now m.bids.now m.width) few.0 few.2 in
    rw (← c.market.view_is) (λ k e. clear_posts _ k e _ _ _ _ (rw (← c.market.view_is) at c.clear_under.ensures) long
    c.in_ok-figures.figures _ few.0 few.2 c.in_ok-figures.was refl)
