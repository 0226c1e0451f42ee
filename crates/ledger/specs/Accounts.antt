-- Accounts with what is added to them.
use Rattle.std.specs.Prelude.{ℕ, ◌+◌, ◌<◌, ◌^◌, List, get_or, length}
use Rattle.model.specs.Counting.{list}

-- the accounts with what is added
unfoldable pub plus : (accounts adds : List ℕ) → List ℕ
plus xs adds = list (length xs) (λ k. get_or xs k 0 + get_or adds k 0)

-- no sum leaves 64 bits
pub record Addable (xs adds : List ℕ) : Type 0 where
  pub fits : (k : ℕ) → k < length xs → get_or xs k 0 + get_or adds k 0 < 2 ^ 64
