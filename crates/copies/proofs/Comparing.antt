-- Laws of the comparison of two lists, element by element.
use Prim.Native.Nat.{ℕ}
use mathlib.Core.Bool.{Bool, true, false, not, ◌&&◌}
use mathlib.Core.List.{List, [], ◌∷◌}
use mathlib.Core.Path.{◌≡◌, refl, sym, ap, ◌∙◌}
use native.Mathlib.Omega.{arith}
use borrow.Author.Tests.{not-true}
use lib.Dec.{eqb}
use lib.ListN.{get_or, length}
use lib.Seq.{ext_get_or}
use Rattle.std.proofs.Math.Bool.{and_assoc, and-true}
use Rattle.std.specs.List.{fold, zip}
use Rattle.std.specs.Cmp.Lexicographic.{pointwise, bytes_decides}
use Rattle.model.specs.Counting.{◌=?◌, ◌and◌, ◌or◌, some}
use Rattle.model.specs.market.Gates.{differs}
use Rattle.model.specs.market.Marking.{same}
use Rattle.model.proofs.Counting.{some_no, none_some}
use Rattle.model.proofs.Tests.{both, first, second, same_test, is_eq, eq_yes}
use Rattle.model.proofs.market.Acceptance.{equal, not_unequal}

module _ {A : Type 0} (E : A → A → Bool) where
  folded :
      (xs ys : List A) (a : Bool) → length xs ≡ length ys
      → fold (λ all p. all && E p.0 p.1) a (zip xs ys) ≡ (a && pointwise E xs ys)
  folded [] [] a e = sym (and-true a)
  folded [] (y ∷ ys) a e = absurd (omega arith)
  folded (x ∷ xs) [] a e = absurd (omega arith)
  folded (x ∷ xs) (y ∷ ys) a e =
      folded xs ys (a && E x y) (omega arith) ∙ and_assoc a (E x y) (pointwise E xs ys)

  pub folded_all :
      (xs ys : List A) → length xs ≡ length ys
      → fold (λ all p. all && E p.0 p.1) true (zip xs ys) ≡ pointwise E xs ys
  folded_all xs ys e = folded xs ys true e

-- ---- at lists of numbers the test is the definitions' one

module _ (xs ys : List ℕ) where
  same_equal : same xs ys ≡ true → xs ≡ ys
  unfolding same
  same_equal e =
      let long : length xs ≡ length ys = eq_yes _ _ (first _ _ e) in
      ext_get_or 0 xs ys long
      (λ k l. equal _ _ (some_no (length xs) _ (not-true _ (second _ _ e)) k l))

  equal_same : xs ≡ ys → same xs ys ≡ true
  unfolding same
  equal_same e = rw (← e) (both (is_eq _ _ refl) (ap not (none_some (length xs) _ (λ k _. not_unequal _ _ refl))))

  pub same_is : pointwise eqb xs ys ≡ same xs ys
  same_is = same_test _ _
      (λ e. equal_same ((bytes_decides xs ys).0 e))
      (λ e. (bytes_decides xs ys).1 (same_equal e))

  not_same : not (same xs ys) ≡ differs xs ys
  unfolding same differs ◌and◌ ◌or◌
  not_same = by (length xs =? length ys) (some (length xs) (λ k. not (get_or xs k 0 =? get_or ys k 0)))
    where
      by : (a b : Bool) → not (a and not b) ≡ (not a or b)
      by true true = refl
      by true false = refl
      by false b = refl

  pub differ_is : not (pointwise eqb xs ys) ≡ differs xs ys
  differ_is = ap not same_is ∙ not_same
