use mathlib.Core.Path.{◌≡◌, refl}
use native.Mathlib.Omega.{arith}
use Prim.Native.Nat.{ℕ, zero, suc}
use Rattle.model.specs.market.Changes.{seat_change}
use Rattle.whatif.proofs.changes.seat_change.Goals as goal

-- the four cases
becomes_seated : (x y : ℕ) → x ≡ 0 → (y ≡ 0 → ⊥) → 1 ≡ seat_change x y
unfolding seat_change
becomes_seated zero zero e n = absurd (n refl)
becomes_seated zero (suc y) e n = refl
becomes_seated (suc x) y e n = absurd (omega arith)

becomes_unseated : (x y : ℕ) → (x ≡ 0 → ⊥) → y ≡ 0 → 2 ≡ seat_change x y
unfolding seat_change
becomes_unseated zero y n e = absurd (n refl)
becomes_unseated (suc x) zero n e = refl
becomes_unseated (suc x) (suc y) n e = absurd (omega arith)

stays_seated : (x y : ℕ) → (x ≡ 0 → ⊥) → (y ≡ 0 → ⊥) → 0 ≡ seat_change x y
unfolding seat_change
stays_seated zero y n k = absurd (n refl)
stays_seated (suc x) zero n k = absurd (k refl)
stays_seated (suc x) (suc y) n k = refl

stays_unseated : (x y : ℕ) → x ≡ 0 → y ≡ 0 → 0 ≡ seat_change x y
unfolding seat_change
stays_unseated x y e f = rw (e, f) refl

pub returns-in-0-eq0 : goal.returns-in-0-eq0
returns-in-0-eq0 c = stays_unseated _ _ c.in-0-eq0.is-0 c.in-0-eq0.is-1

pub returns-in-0-default : goal.returns-in-0-default
returns-in-0-default c = becomes_seated _ _ c.in-0-default.is-0 c.in-0-default.is-1.1

pub returns-in_default-eq0 : goal.returns-in_default-eq0
returns-in_default-eq0 c = becomes_unseated _ _ c.in_default-eq0.is-0.1 c.in_default-eq0.is-1

pub returns-in_default : goal.returns-in_default
returns-in_default c = stays_seated _ _ c.in_default.is-0.1 c.in_default.is-1.1
