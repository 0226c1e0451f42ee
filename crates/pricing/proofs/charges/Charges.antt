-- Laws of charges.
use Prim.Native.Nat.{ℕ, ◌≤◌, ◌<◌, ◌^◌, max}
use mathlib.Core.Bool.{Bool}
use mathlib.Core.List.{List}
use mathlib.Core.Path.{◌≡◌, refl, sym, ◌∙◌}
use native.Mathlib.Omega.{arith}
use lib.ListN.{get_or, length}
use Rattle.model.specs.Counting.{◌<?◌, only}
use Rattle.model.proofs.Tests.{only_le}
use Rattle.model.proofs.Loops.{Filling, filling_end, is_list}
use Rattle.pricing.specs.Charges.{charged_at, Charged}

-- a charge fits its table
pub charge_fits : (b : Bool) (x y : ℕ) {r : ℕ} → r ≡ only b (max x y) → x < 2 ^ 32 → y < 2 ^ 32 → r < 2 ^ 32
charge_fits b x y e l m = omega (arith, only_le b (max x y) 4294967295 (λ _. omega arith))

-- what the code stores at guest i
pub charged_is :
    (chosen least criticals : List ℕ) (i : ℕ) {v r x y : ℕ} → v ≡ r → r ≡ only (0 <? get_or chosen i 0) (max x y)
    → x ≡ get_or least i 0 → y ≡ get_or criticals (get_or chosen i 0) 0 → v ≡ charged_at chosen least criticals i
unfolding charged_at
charged_is chosen least criticals i e q ex ey = cc

pub charged_end :
    {chosen least criticals stations₀ charges₀ stations charges : List ℕ} {i : ℕ}
    → Filling (length chosen) (λ k. get_or chosen k 0) stations₀ stations i
    → Filling (length chosen) (charged_at chosen least criticals) charges₀ charges i
    → length chosen ≤ i → Charged chosen least criticals stations charges
charged_end {chosen} s c b = record {
  stations_are = filling_end s b ∙ sym (is_list _ _ chosen refl (λ k l. refl));
  charges_are = filling_end c b;
}
