-- Laws of folds that scan a list: whether some element passes a test.
use Prim.Native.Nat.{ℕ, zero, suc}
use mathlib.Core.Bool.{Bool, false, ◌||◌}
use mathlib.Core.List.{List, [], ◌∷◌}
use mathlib.Core.Path.{◌≡◌, sym, ap, ◌∙◌}
use lib.ListN.{get_or, length}
use Rattle.std.proofs.Math.Bool.{or_assoc, or-false}
use Rattle.std.specs.List.{fold}
use Rattle.model.specs.Counting.{some}
use Rattle.model.proofs.Loops.{or_is}

-- the first passes, or one of the others
next_some : (n : ℕ) (f : ℕ → Bool) → (f 0 || some n (λ k. f (suc k))) ≡ some (suc n) f
unfolding some
next_some zero f = or-false (f 0) ∙ or_is false (f 0)
next_some (suc n) f =
    ap (λ b. f 0 || b) (sym (or_is (some n (λ k. f (suc k))) (f (suc n))))
    ∙ sym (or_assoc (f 0) (some n (λ k. f (suc k))) (f (suc n)))
    ∙ ap (λ b. b || f (suc n)) (next_some n f) ∙ or_is (some (suc n) f) (f (suc n))

module _ {A : Type 0} (p : A → Bool) (d : A) where
  folded :
      (xs : List A) (b : Bool)
      → fold (λ b x. b || p x) b xs ≡ (b || some (length xs) (λ k. p (get_or xs k d)))
  unfolding some
  folded [] b = sym (or-false b)
  folded (x ∷ xs) b =
      folded xs (b || p x) ∙ or_assoc b (p x) (some (length xs) (λ k. p (get_or xs k d)))
      ∙ ap (λ c. b || c) (next_some (length xs) (λ k. p (get_or (x ∷ xs) k d)))

  -- a scan of all of it
  pub fold_some : (xs : List A) → fold (λ b x. b || p x) false xs ≡ some (length xs) (λ k. p (get_or xs k d))
  fold_some xs = folded xs false
