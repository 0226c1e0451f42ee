-- What a guest obtains at a station's number.
use Prim.Native.Nat.{ℕ, zero, suc, ◌-◌}
use mathlib.Core.Path.{◌≡◌, refl, ap}
use native.Mathlib.Omega.{arith}
use Rattle.model.specs.market.Mechanism.{at}

pub obtained_nowhere : (f : ℕ → ℕ) (station : ℕ) → station ≡ 0 → 0 ≡ at f station
unfolding at
obtained_nowhere f station e = rw e refl

pub obtained_at : (f : ℕ → ℕ) (station : ℕ) → (station ≡ 0 → ⊥) → f (station - 1) ≡ at f station
unfolding at
obtained_at f zero n = absurd (n refl)
obtained_at f (suc j) n = ap f (omega arith)
