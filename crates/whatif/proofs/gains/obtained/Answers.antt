use Prim.Native.Nat.{◌*◌}
use native.Mathlib.Omega.{arith}
use lib.ListN.{get_or}
use Rattle.model.proofs.Differences.{product_low}
use Rattle.whatif.proofs.gains.Gains.{obtained_nowhere, obtained_at}
use Rattle.whatif.proofs.gains.obtained.Goals as goal

pub returns-then-station-eq0 : goal.returns-then-station-eq0
returns-then-station-eq0 c = (obtained_nowhere _ _ c.if-station-eq0.true, omega arith)

pub returns : goal.returns
returns c =
    let worths = c.args.worths.now in
    rw (c.times.ensures, c.from.ensures, c.from-2.ensures) (
      obtained_at (λ j. get_or worths j 0 * c.args.amount) _ c.if-station-eq0.false,
      product_low _ _ (c.type_inv.worths _).fits c.ranges.amount.fits,
    )
