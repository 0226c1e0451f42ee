use Prim.Native.Nat.{ℕ, ◌≤◌}
use mathlib.Core.Bool.{Bool}
use mathlib.Core.Path.{◌≡◌}
use native.Mathlib.Nat.{le_refl}
use native.Mathlib.Omega.{arith}
use Rattle.model.specs.Counting.{only}
use Rattle.model.proofs.Greater.{greater_mills}
use Rattle.model.proofs.Tests.{only_le}
use Rattle.menu.proofs.listing.entry_of.Goals as goal

one_most : (b : Bool) {x : ℕ} → x ≡ only b 1 → x ≤ 1
one_most b e = omega (arith, e, only_le b 1 1 (λ _. le_refl 1))

pub add-requires : goal.add-requires
add-requires c = omega (arith, c.requires.1, one_most _ c.one_if.ensures)

pub narrow-requires : goal.narrow-requires
narrow-requires c =
    omega (
      arith,
      greater_mills c.args.least c.add.result c.max.ensures,
      c.requires.0,
      c.requires.1,
      c.add.ensures,
      one_most _ c.one_if.ensures,
    )
