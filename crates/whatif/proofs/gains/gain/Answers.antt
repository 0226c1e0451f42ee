use Prim.Native.Nat.{◌^◌, ◌<◌}
use mathlib.Core.Path.{ap, ◌∙◌}
use native.Mathlib.Omega.{arith}
use lib.IntN.{sub_ℕ}
use Rattle.whatif.specs.Gains.{gain_from}
use Rattle.model.proofs.Differences.{difference_is}
use Rattle.whatif.proofs.gains.gain.Goals as goal

pub returns : goal.returns
unfolding gain_from
returns c =
    let low : c.args.charge < 2 ^ 48 = omega (arith, c.ranges.charge.fits) in
    rw c.from.ensures (difference_is _ _ c.obtained.ensures.1 low
    ∙ ap (λ x. sub_ℕ x c.args.charge) c.obtained.ensures.0)
