-- Lists of tickets that rise, and the scan for two that are the same.
use Rattle.std.specs.Prelude.{ℕ, suc, ◌-◌, ◌%◌, Bool, not, List, get_or, length}
use Rattle.model.specs.Counting.{◌≤?◌, ◌=?◌, some}

-- the next one is no higher
unfoldable pub falls_after : List ℕ → ℕ → Bool
falls_after xs k = get_or xs (suc k) 0 ≤? get_or xs k 0

-- each is below the next
unfoldable pub rising : List ℕ → Bool
rising xs = not (some (length xs - 1) (falls_after xs))

-- the one at k stands before k too
unfoldable pub stands_before : List ℕ → ℕ → Bool
stands_before xs k = some k (λ i. get_or xs i 0 =? get_or xs k 0)

-- a ticket's place in the table of places taken
abbrev pub slots : ℕ
slots = 4_096

unfoldable pub slot : ℕ → ℕ
slot ticket = ticket % slots
