use mathlib.Core.Path.{sym, ap, ◌∙◌}
use Rattle.model.proofs.Loops.{zeros_long}
use Rattle.pricing.specs.CutAsk.{cut_ask}
use Rattle.pricing.proofs.cut.CutAsk.{cut_low}
use Rattle.menu.proofs.Asked.{listed_at_cut}
use Rattle.menu.proofs.accepted.list_accepted.Goals as goal

pub list_stations-requires : goal.list_stations-requires
list_stations-requires c =
    let w = c.market.invariant in
    let s = rw (← c.market.view_is) at c.requires in
    rw (← c.market.view_is) (
      cut_low _ _ _ w c.cut-cut.ensures,
      s.guest_below,
      sym (zeros_long _ _ w.shape.guests_most),
      s.bars_long,
      s.prices_long,
    )

pub returns : goal.returns
returns c =
    listed_at_cut _ _ _ (c.cut-cut.ensures ∙ ap (λ t. cut_ask c.args.rule t.asks) c.market.view_is)
    c.list_stations.ensures
