-- Laws of the squared distance.
use Prim.Native.Nat.{ℕ, ◌+◌, ◌*◌, ◌-◌, ◌≤◌, ◌<◌}
use mathlib.Core.Path.{◌≡◌, refl, ap₂}
use native.Mathlib.Nat.{mul-le-mul}
use native.Mathlib.Omega.{arith}
use Rattle.model.specs.Limits.{max_cell}
use Rattle.model.specs.places.Bids.{difference, squared_distance}
use Rattle.model.specs.declared.cell.Cell.{Cell}
use Rattle.model.specs.claims.Places.{GridDistances}

pub difference_below : (x y : ℕ) → x < y → y - x ≡ difference x y
unfolding difference
difference_below x y l = omega arith

pub difference_above : (x y : ℕ) → y ≤ x → x - y ≡ difference x y
unfolding difference
difference_above x y l = omega arith

-- the square of a difference on the grid
pub square_most : (x y : ℕ) {r : ℕ} → r ≡ difference x y → x ≤ max_cell → y ≤ max_cell → r * r ≤ max_cell * max_cell
unfolding difference
square_most x y {r} e l h = let low : r ≤ max_cell = omega arith in mul-le-mul low low

pub distance_is :
    (a b : Cell) {first second : ℕ} → first ≡ difference a.first b.first
    → second ≡ difference a.second b.second → first * first + second * second ≡ squared_distance a b
unfolding squared_distance
distance_is a b e f = ap₂ (λ first second. first * first + second * second) e f

pub grid_distances : GridDistances
unfolding squared_distance
grid_distances a b g h =
    omega (
      arith,
      square_most a.first b.first refl g.first_most h.first_most,
      square_most a.second b.second refl g.second_most h.second_most,
    )
