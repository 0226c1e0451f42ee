-- Whether accounts have room for what is added.
use Rattle.std.specs.Prelude.{ℕ, ◌+◌, Bool, List, get_or, length}
use Rattle.model.specs.Limits.{max_account}
use Rattle.model.specs.Counting.{◌<?◌, some}

-- some account would be above the limit with what is added
unfoldable pub exceeding : (accounts adds : List ℕ) → Bool
exceeding xs adds = some (length xs) (λ k. max_account <? get_or xs k 0 + get_or adds k 0)
