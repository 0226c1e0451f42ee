-- Prices and amounts within the limits.
use Prim.Native.Nat.{ℕ, ◌*◌, ◌≤◌}
use native.Mathlib.Nat.{mul-le-mul}
use Rattle.model.specs.Limits.{max_price, max_amount}

-- price times amount, within the limits
pub product : (x y : ℕ) → x ≤ max_price → y ≤ max_amount → x * y ≤ max_price * max_amount
product x y l h = mul-le-mul l h
