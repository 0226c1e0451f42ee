-- A table's rule: a test that passes at every entry, which is computed once, passes at each.
use Prim.Native.Nat.{ℕ, zero, suc, ◌+◌, ◌<◌}
use mathlib.Core.Bool.{Bool, true}
use mathlib.Core.List.{List, [], ◌∷◌}
use mathlib.Core.Path.{◌≡◌, sym, ap, ◌∙◌}
use native.Mathlib.Nat.{add-zero, zero-add, add-suc, suc-add, le_of_suc-le-suc, not-suc-le-zero}
use lib.ListN.{length, get_or}
use Rattle.model.specs.Counting.{◌and◌}
use Rattle.model.proofs.Tests.{first, second}

-- the test passes at each entry and its place, counted from i
unfoldable pub every : (ℕ → ℕ → Bool) → ℕ → List ℕ → Bool
every f i [] = true
every f i (x ∷ xs) = f i x and every f (suc i) xs

from :
    (f : ℕ → ℕ → Bool) (i : ℕ) (xs : List ℕ) → every f i xs ≡ true
    → (k : ℕ) → k < length xs → f (i + k) (get_or xs k 0) ≡ true
unfolding every
from f i [] e k l = absurd (not-suc-le-zero l)
from f i (x ∷ xs) e zero l = rw (add-zero i) (first _ _ e)
from f i (x ∷ xs) e (suc k) l =
    ap (λ m. f m (get_or xs k 0)) (add-suc i k ∙ sym (suc-add i k))
    ∙ from f (suc i) xs (second _ _ e) k (le_of_suc-le-suc l)

pub at_each :
    (f : ℕ → ℕ → Bool) (xs : List ℕ) → every f 0 xs ≡ true → (k : ℕ) → k < length xs → f k (get_or xs k 0) ≡ true
at_each f xs e k l = ap (λ m. f m (get_or xs k 0)) (sym (zero-add k)) ∙ from f 0 xs e k l
