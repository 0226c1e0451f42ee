-- The signed difference of two numbers that fit, as the machine comes to it.
use Prim.Native.Nat.{ℕ, zero, suc, ◌+◌, ◌*◌, ◌^◌, ◌≤◌, ◌<◌}
use mathlib.Core.Bool.{true, false}
use mathlib.Core.Logic.{⊎_elim}
use mathlib.Core.Path.{◌≡◌, refl, ap, ap₂, ◌∙◌}
use native.Mathlib.Nat.{mul-le-mul}
use native.Mathlib.Omega.{arith}
use lib.Dec.{ltb}
use lib.IntN.{ℤ, pos, sub_ℕ, ◌-ℤ◌}
use lib.Signed.{mag}
use mir.Syntax.{w64}
use mir.Val.{to_z, of_z, SFits}
use mir.ValLaws.{to_z_pos, to_z-of_z}
use Rattle.model.specs.Counting.{◌<?◌}
use Rattle.model.proofs.Tests.{decide, not_lt}

minus : (a b : ℕ) → pos a -ℤ pos b ≡ sub_ℕ a b
unfolding ◌<?◌
minus a zero = rw (not_lt a 0 (omega arith)) (ap pos (omega arith))
minus a (suc b) = refl

mag_minus : (a b : ℕ) → mag (sub_ℕ a b) ≤ a + b
mag_minus a b = ⊎_elim
    (λ (e : ltb a b ≡ true). rw e (omega arith))
    (λ (e : ltb a b ≡ false). rw e (omega arith))
    (decide (ltb a b))

-- the machine reads both from their bits
module _ (a b : ℕ) (ha : a < 2 ^ 48) (hb : b < 2 ^ 48) where
  reads : to_z w64 a -ℤ to_z w64 b ≡ sub_ℕ a b
  reads = ap₂ ◌-ℤ◌ (to_z_pos w64 a (omega arith)) (to_z_pos w64 b (omega arith)) ∙ minus a b

  pub difference_fits : SFits w64 (to_z w64 a -ℤ to_z w64 b)
  difference_fits = rw reads (record { sfits = omega (arith, mag_minus a b) })

  pub difference_is : to_z w64 (of_z w64 (to_z w64 a -ℤ to_z w64 b)) ≡ sub_ℕ a b
  difference_is = to_z-of_z w64 _ difference_fits ∙ reads

-- a signed number goes through its bits
pub reads_back : (z : ℤ) → mag z < 2 ^ 63 → to_z w64 (of_z w64 z) ≡ z
reads_back z h = to_z-of_z w64 z (record { sfits = h })

pub product_low : (x y : ℕ) → x < 2 ^ 32 → y < 2 ^ 16 → x * y < 2 ^ 48
product_low x y hx hy =
    let a : x ≤ 4294967295 = omega arith in
    let b : y ≤ 65535 = omega arith in
    omega (arith, mul-le-mul a b)
