use Rattle.std.proofs.Common.{◌*◌, max, ap, ◌∙◌}
use Rattle.quiet.proofs.criticals.Ranks.{total_by_quotient}
use Rattle.quiet.proofs.criticals.raised.Goals as goal

pub returns : goal.returns
returns c =
    let quotient = ap (λ q. q * c.times-total.result.0) c.from.ensures in
    c.larger.ensures ∙ ap (max _) (quotient ∙ total_by_quotient _ _ _ _ c.requires.bid_le_max_price.0
    c.requires.least_bound.0 c.times-total.ensures)
