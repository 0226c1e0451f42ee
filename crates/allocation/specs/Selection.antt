-- The critical total of a list of totals.
use Rattle.std.specs.Prelude.{ℕ, ◌<◌, ◌≤◌, List, ◌≡◌, get_or, length}
use Rattle.model.specs.Counting.{◌<?◌, ◌≤?◌, only, greatest, count}

-- how many elements are above t
unfoldable pub above : List ℕ → ℕ → ℕ
above l t = count (length l) (λ k. t <? get_or l k 0)

-- the greatest element that is at most t, 0 for none
unfoldable pub greatest_up_to : List ℕ → ℕ → ℕ
greatest_up_to l t = greatest (length l) (λ k. only (get_or l k 0 ≤? t) (get_or l k 0))

-- r is the least number with at most b elements above it
pub record LeastFew (l : List ℕ) (b r : ℕ) : Type 0 where
  pub few : above l r ≤ b
  pub least : (u : ℕ) → u < r → b < above l u

-- t is that number, with a elements above it
pub record Selected (l : List ℕ) (b t a : ℕ) : Type 0 where
  pub least_few : LeastFew l b t
  pub counted : a ≡ above l t
