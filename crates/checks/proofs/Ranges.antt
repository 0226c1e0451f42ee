-- The scan for a value out of range, at numbers: it is the limits' one.
use Prim.Native.Nat.{ℕ}
use mathlib.Core.Bool.{Bool, true, false, cond, ◌||◌}
use mathlib.Core.List.{List}
use mathlib.Core.Path.{◌≡◌, refl, ap, ap₂, ◌∙◌}
use lib.Dec.{ltb, eqb}
use lib.ListN.{get_or, length}
use Rattle.std.specs.Prelude.{Some}
use Rattle.std.specs.Ordering.{nat_cmp, is_lt, partial_lt}
use Rattle.std.specs.declared.cmp.Ordering.TheVariants.{Less, Equal, Greater}
use Rattle.std.proofs.lemmas.List.{get_or_default}
use Rattle.model.specs.Counting.{any}
use Rattle.model.specs.market.Faults.{outside}
use Rattle.model.proofs.Counting.{some_cong}
use Rattle.model.proofs.Loops.{outside_is}
use Rattle.checks.specs.Ranges.{some_outside}

lt_is : (x y : ℕ) → partial_lt (λ a b. Some (nat_cmp a b)) x y ≡ ltb x y
lt_is x y = by (ltb x y) (eqb x y)
  where
    by : (a b : Bool) → is_lt (cond a Less (cond b Equal Greater)) ≡ a
    by true b = refl
    by false true = refl
    by false false = refl

pub any_outside_is :
    (low high : ℕ) (xs : List ℕ)
    → some_outside (λ a b. Some (nat_cmp a b)) low high xs ≡ any xs (outside low high)
unfolding some_outside any
any_outside_is low high xs = some_cong (length xs) _ _ (λ k l.
    let x = get_or xs k low in
    ap₂ ◌||◌ (lt_is x low) (lt_is high x) ∙ outside_is low high x
    ∙ ap (outside low high) (get_or_default xs k low 0 l))
