-- The scan for a value out of range, by the comparison of its type.
use Rattle.std.specs.Prelude.{Bool, ◌||◌, List, Option, get_or, length}
use Rattle.std.specs.Ordering.{partial_lt}
use Rattle.std.specs.declared.cmp.Ordering.{Ordering}
use Rattle.model.specs.Counting.{some}

-- below low or above high
abbrev pub beyond : {A : Type 0} → (A → A → Option Ordering) → (low high x : A) → Bool
beyond cmp low high x = partial_lt cmp x low || partial_lt cmp high x

-- some element is
unfoldable pub some_outside : {A : Type 0} → (A → A → Option Ordering) → (low high : A) → List A → Bool
some_outside cmp low high xs = some (length xs) (λ k. beyond cmp low high (get_or xs k low))
