-- A test of the pairs of two lists, by index.
use Prim.Native.Nat.{ℕ, zero, suc, ◌+◌, ◌≤◌}
use mathlib.Core.Bool.{Bool, true, false}
use mathlib.Core.List.{List, [], ◌∷◌, map}
use mathlib.Core.Path.{◌≡◌, refl, sym, ap, ◌∙◌}
use native.Mathlib.Omega.{arith}
use lib.ListN.{get_or, length, length-map, get_or-map}
use Rattle.std.specs.List.{list_any, zip}
use Rattle.model.specs.Limits.{max_account}
use Rattle.model.specs.Counting.{◌<?◌, ◌or◌, some}
use Rattle.model.proofs.Counting.{some_cong}
use Rattle.model.proofs.Loops.{or_is}
use Rattle.ledger.specs.Room.{exceeding}

or_none : (a : Bool) → (false or a) ≡ (a or false)
unfolding ◌or◌
or_none true = refl
or_none false = refl

or_assoc : (a b c : Bool) → (a or b or c) ≡ (a or (b or c))
unfolding ◌or◌
or_assoc true b c = refl
or_assoc false b c = refl

-- the first index apart
some_first : (n : ℕ) (f : ℕ → Bool) → some (suc n) f ≡ (f 0 or some n (λ k. f (suc k)))
unfolding some
some_first zero f = or_none (f 0)
some_first (suc n) f = ap (λ b. b or f (suc n)) (some_first n f) ∙ or_assoc (f 0) _ _

-- some pair passes, where the second list is no shorter than the first
pub some_pair :
    {A : Type 0} (d : A) (f : A → ℕ → Bool) (xs : List A) (ys : List ℕ) → length xs ≤ length ys
    → list_any (λ (p : A × ℕ). f p.0 p.1) (zip xs ys) ≡ some (length xs) (λ k. f (get_or xs k d) (get_or ys k 0))
unfolding some
some_pair d f [] ys l = refl
some_pair d f (x ∷ xs) [] l = absurd (omega arith)
some_pair d f (x ∷ xs) (y ∷ ys) l =
    or_is _ _ ∙ ap (λ b. f x y or b) (some_pair d f xs ys (omega arith))
    ∙ sym (some_first (length xs) (λ k. f (get_or (x ∷ xs) k d) (get_or (y ∷ ys) k 0)))

-- some account exceeds, of records that show one with v
pub exceeding_shown :
    {A : Type 0} (v : A → ℕ) (d : A) (none : v d ≡ 0) (xs : List A) (adds : List ℕ) → length xs ≤ length adds
    → list_any (λ (p : A × ℕ). max_account <? v p.0 + p.1) (zip xs adds) ≡ exceeding (map v xs) adds
unfolding exceeding
exceeding_shown v d none xs adds l =
    some_pair d (λ a x. max_account <? v a + x) xs adds l
    ∙ rw length-map (some_cong (length xs) _ _
    (λ k _. ap (λ a. max_account <? a + get_or adds k 0) (sym (get_or-map v xs k d)
    ∙ ap (λ z. get_or (map v xs) k z) none)))
