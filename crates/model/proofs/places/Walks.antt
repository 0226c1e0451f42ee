-- Laws of the walk.
use Prim.Native.Nat.{ℕ, zero, suc, ◌+◌, ◌*◌, ◌≤◌, ◌<◌, max}
use mathlib.Core.Bool.{true, false}
use mathlib.Core.Logic.{⊎_elim}
use mathlib.Core.Path.{◌≡◌}
use native.Mathlib.Nat.{mul-le-mul, mul-le-mul_right, le_trans, le_antisymm}
use native.Mathlib.Omega.{arith}
use Rattle.model.specs.Limits.{max_squared_distance}
use Rattle.model.specs.Counting.{◌≤?◌, only, greatest}
use Rattle.model.specs.places.Bids.{walk}
use Rattle.model.specs.claims.Places.{WalkIsGreatest}
use Rattle.model.proofs.Tests.{decide, le_yes, is_le, le_only, only_yes, only_no, lt_or_le}
use Rattle.model.proofs.Counting.{le_greatest}

-- d where its square is at most n, else 0
abbrev within : ℕ → ℕ → ℕ
within n d = only (d * d ≤? n) d

within_low : (n d : ℕ) → within n d * within n d ≤ n
within_low n d = ⊎_elim
    (λ (e : d * d ≤? n ≡ true). rw (only_yes _ d e) (le_yes _ _ e))
    (λ (e : d * d ≤? n ≡ false). rw (only_no _ d e) (omega arith))
    (decide (d * d ≤? n))

greatest_low : (n k : ℕ) → greatest k (within n) * greatest k (within n) ≤ n
unfolding greatest
greatest_low n zero = omega arith
greatest_low n (suc k) = ⊎_elim
    (λ (l : greatest k (within n) < within n k).
    let e : max (greatest k (within n)) (within n k) ≡ within n k = omega arith in rw e (within_low n k))
    (λ (l : within n k ≤ greatest k (within n)).
    let e : max (greatest k (within n)) (within n k) ≡ greatest k (within n) = omega arith in rw e (greatest_low n k))
    (lt_or_le (greatest k (within n)) (within n k))

-- a number is at most its square
le_square : (d : ℕ) → d ≤ d * d
le_square zero = omega arith
le_square (suc d) = omega (arith, mul-le-mul_right (suc d) (let l : 1 ≤ suc d = omega arith in l))

pub walk_is_greatest : WalkIsGreatest
unfolding walk
walk_is_greatest q = (
  greatest_low (100 * q) (100 * q + 1),
  λ d h.
      le_trans (le_only _ d (is_le _ _ h))
      (le_greatest (100 * q + 1) (within (100 * q)) d (omega (arith, le_square d))),
)

pub walk_is : (q d : ℕ) → d * d ≤ 100 * q → 100 * q < (d + 1) * (d + 1) → walk q ≡ d
walk_is q d l h = le_antisymm
    (⊎_elim
    (λ (g : d < walk q).
    let s : d + 1 ≤ walk q = omega arith in
    absurd (omega (arith, mul-le-mul s s, (walk_is_greatest q).0)))
    (λ (g : walk q ≤ d). g)
    (lt_or_le d (walk q)))
    ((walk_is_greatest q).1 d l)

pub walk_mono : (q q' : ℕ) → q' ≤ q → walk q' ≤ walk q
walk_mono q q' l = (walk_is_greatest q).1 (walk q') (omega (arith, (walk_is_greatest q').0))

-- the longest walk, from corner to corner
pub longest_walk : walk max_squared_distance ≡ 438
longest_walk = walk_is max_squared_distance 438 (omega arith) (omega arith)

pub walk_most : (q : ℕ) → q ≤ max_squared_distance → walk q ≤ 438
walk_most q l = omega (arith, walk_mono max_squared_distance q l, longest_walk)
