use mathlib.Core.Path.{sym, ◌∙◌}
use Rattle.model.proofs.Compared.{lt_is}
use Rattle.model.proofs.Tests.{lt_no}
use Rattle.menu.proofs.Rivals.{closed_bar, closed_price}
use Rattle.menu.proofs.listing.station.Goals as goal

pub returns-else-lt : goal.returns-else-lt
returns-else-lt c =
    let l = lt_no _ _ (sym (c.lt.ensures ∙ lt_is _ _) ∙ c.if-lt.false) in
    rw (← c.market.view_is) (closed_bar _ _ _ _ l, closed_price _ _ _ _ l)
