-- A loop that raises accounts one after the other, in a list of records that show theirs.
use Prim.Native.Nat.{ℕ, ◌+◌, ◌≤◌, ◌<◌}
use mathlib.Core.List.{List, map}
use mathlib.Core.Logic.{⊎_elim}
use mathlib.Core.Path.{◌≡◌, sym, ap, ◌∙◌}
use native.Mathlib.Nat.{le_refl}
use native.Mathlib.Omega.{arith}
use lib.ListN.{get_or, length, set, length-map, get_or-map}
use Rattle.std.proofs.lemmas.List.{map-set}
use Rattle.model.specs.Counting.{◌<?◌}
use Rattle.model.specs.book.PlainBook.{raised}
use Rattle.model.proofs.Loops.{Filled, filled_none, filled_more, is_list}
use Rattle.model.proofs.Tests.{lt_or_le, is_lt, not_lt, only_yes, only_no}

-- the first i are raised
pub record Raised (f : ℕ → ℕ) (before after : List ℕ) (i : ℕ) : Type 0 where
  pub filled : Filled (λ k. get_or before k 0 + f k) before after i

pub raised_none : {f : ℕ → ℕ} {xs : List ℕ} → Raised f xs xs 0
raised_none = record { filled = filled_none }

pub raised_end : {n i : ℕ} {f : ℕ → ℕ} {xs l : List ℕ} → Raised f xs l i → i ≡ n → l ≡ raised n f xs
unfolding raised
raised_end {n} {i} {f} {xs} {l} h e = is_list (length xs) _ _ h.filled.same (λ k _. ⊎_elim
    (λ (a : k < n). h.filled.done k (omega arith) ∙ ap (λ x. get_or xs k 0 + x) (sym (only_yes _ _ (is_lt k n a))))
    (λ (a : n ≤ k). h.filled.left k (omega arith) ∙ omega (arith, only_no (k <? n) (f k) (not_lt k n a)))
    (lt_or_le k n))

-- v shows a record's account, and none past the end
module _ {A : Type 0} (v : A → ℕ) (d : A) (none : v d ≡ 0) {f : ℕ → ℕ} (before after : List A) {i : ℕ}
    (h : Raised f (map v before) (map v after) i) where
  pub shown : v (get_or after i d) ≡ get_or (map v before) i 0
  shown = sym (get_or-map v after i d) ∙ ap (λ z. get_or (map v after) i z) none ∙ h.filled.left i (le_refl _)

  pub shown_turn :
      {a : A} → i < length before → v a ≡ get_or (map v before) i 0 + f i
      → Raised f (map v before) (map v (set after i a)) (i + 1)
  shown_turn {a} l e = rw map-set (record { filled = filled_more h.filled (omega (arith, length-map before v)) e })
