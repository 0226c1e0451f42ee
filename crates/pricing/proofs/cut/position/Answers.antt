use Prim.Native.Nat.{ℕ, ◌+◌, ◌*◌, ◌/◌}
use mathlib.Core.Path.{◌≡◌}
use native.Mathlib.Omega.{arith}
use Rattle.model.specs.market.Rules.{median, two_thirds, position}
use Rattle.pricing.proofs.cut.position.Goals as goal

median_is : (m : ℕ) → m / 2 + 1 ≡ median m
unfolding median
median_is m = omega arith

two_thirds_is : (m : ℕ) → 2 * m / 3 + 1 ≡ two_thirds m
unfolding two_thirds
two_thirds_is m = omega arith

pub returns-in-Median : goal.returns-in-Median
unfolding position
returns-in-Median c = rw c.in-Median.is (median_is _)

pub returns-in-TwoThirds : goal.returns-in-TwoThirds
unfolding position
returns-in-TwoThirds c = rw c.in-TwoThirds.is (two_thirds_is _)
