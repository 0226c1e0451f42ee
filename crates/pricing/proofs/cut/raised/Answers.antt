use native.Mathlib.Omega.{arith}
use Rattle.model.proofs.Greater.{greater_price}
use Rattle.pricing.proofs.cut.CutAsk.{eligible_yes, eligible_no}
use Rattle.pricing.proofs.cut.raised.Goals as goal

pub returns-then-below-position : goal.returns-then-below-position
returns-then-below-position c =
    omega (
      arith,
      greater_price c.args.r c.args.x c.max.ensures,
      eligible_yes _ _ c.args.x.0 _ c.count_below-below.ensures c.if-below-position.true,
    )

pub returns-else-below-position : goal.returns-else-below-position
returns-else-below-position c =
    omega (arith, eligible_no _ _ c.args.x.0 _ c.count_below-below.ensures c.if-below-position.false)
