use Prim.Native.Nat.{ℕ, ◌+◌, ◌-◌, ◌/◌, ◌%◌, ◌<◌, ◌≤◌, min}
use mathlib.Core.Logic.{⊎_elim}
use mathlib.Core.Path.{◌≡◌}
use native.Mathlib.Nat.{le_antisymm, div-lt_iff_lt-mul}
use native.Mathlib.Omega.{arith}
use Rattle.std.proofs.lemmas.Grind.{div_ceil_times}
use Rattle.model.proofs.Tests.{lt_or_le}
use Rattle.menu.specs.Keys.{least_bid, least_within}
use Rattle.menu.proofs.keys.least_bid.Goals as goal

-- two ways to round a quotient up
rounds_up : (a b : ℕ) → 0 < b → a / b + min 1 (a % b) ≡ (a + (b - 1)) / b
rounds_up a b h =
    let q : ℕ = a / b + min 1 (a % b) in
    let (low, high) = div_ceil_times a b h in
    let p : ℕ = (a + (b - 1)) / b in
    let least = div-lt_iff_lt-mul {k = b} {x = a + (b - 1)} {y = q} h in
    let most = div-lt_iff_lt-mul {k = b} {x = a + (b - 1)} {y = q + 1} h in
    let below : p < q + 1 = most.1 (omega (arith, low)) in
    ⊎_elim
    (λ (l : p < q). absurd (omega (arith, high, least.0 l)))
    (λ (l : q ≤ p). le_antisymm l (omega (arith, below)))
    (lt_or_le p q)

pub returns : goal.returns
unfolding least_bid least_within
returns c = omega (arith, c.min.ensures, c.div_ceil.ensures, rounds_up c.args.bar c.args.amount c.requires)
