-- Laws of who holds a place by the critical total and the tie bound.
use Prim.Native.Nat.{ℕ, ◌+◌, ◌≤◌, ◌<◌}
use mathlib.Core.Bool.{Bool, true, false}
use mathlib.Core.Logic.{⊎_elim}
use mathlib.Core.Path.{◌≡◌, refl, sym, ap, ◌∙◌}
use native.Mathlib.Omega.{arith}
use Rattle.model.specs.Counting.{◌<?◌, ◌=?◌, ◌and◌, only}
use Rattle.model.proofs.Tests.{both, and_no, or_left, or_right, neither, is_lt, not_lt, is_eq, not_eq, lt_or_le}
use Rattle.model.proofs.Tests.{eq_or_ne, only_yes, only_no, only_le}
use Rattle.allocation.specs.Offers.{won_by}

-- one mill more for whoever is below the bound: above the critical total, or at it and below the bound
and_false : (a : Bool) → (a and false) ≡ false
unfolding ◌and◌
and_false true = refl
and_false false = refl

above_credited : (x t k e : ℕ) → (t <? x + only (k <? e) 1) ≡ won_by x t k e
unfolding won_by
above_credited x t k e = ⊎_elim
    (λ (p : t < x). is_lt _ _ (omega arith) ∙ sym (or_left _ _ (is_lt t x p)))
    (λ (p : x ≤ t). ⊎_elim
    (λ (q : x ≡ t). ⊎_elim
    (λ (l : k < e). is_lt _ _ (omega (arith, only_yes _ 1 (is_lt k e l)))
    ∙ sym (or_right _ _ (both (is_eq x t q) (is_lt k e l))))
    (λ (l : e ≤ k). not_lt _ _ (omega (arith, only_no _ 1 (not_lt k e l)))
    ∙ sym (neither (not_lt t x p) (ap (λ b. x =? t and b) (not_lt k e l) ∙ and_false (x =? t))))
    (lt_or_le k e))
    (λ (q : x ≡ t → ⊥). not_lt _ _ (omega (arith, only_le (k <? e) 1 1 (λ _. omega arith)))
    ∙ sym (neither (not_lt t x p) (and_no _ _ (not_eq x t q))))
    (eq_or_ne x t))
    (lt_or_le t x)

pub held_is :
    (x t k e : ℕ) {credited : ℕ} {held : Bool} → credited ≡ x + only (k <? e) 1 → held ≡ (t <? credited)
    → held ≡ won_by x t k e
held_is x t k e c h = h ∙ ap (λ y. t <? y) c ∙ above_credited x t k e
