-- Laws of offers.
use Prim.Native.Nat.{ℕ, ◌+◌, ◌-◌, ◌≤◌, ◌<◌, max}
use mathlib.Core.Bool.{Bool, true, false}
use mathlib.Core.List.{List}
use mathlib.Core.Logic.{⊎_elim}
use mathlib.Core.Path.{◌≡◌, refl, sym, ap, ◌∙◌}
use native.Mathlib.Nat.{le_refl}
use native.Mathlib.Omega.{arith}
use lib.ListN.{get_or, length, set}
use Rattle.model.specs.Counting.{◌<?◌, ◌=?◌, ◌and◌, ◌or◌, only}
use Rattle.model.proofs.Tests.{both, first, second, and_no, or_cases, or_left, or_right, neither, only_le, only_yes}
use Rattle.model.proofs.Tests.{only_no, lt_yes, eq_yes, is_lt, not_lt, is_eq, not_eq, lt_or_le, eq_or_ne}
use Rattle.model.proofs.Loops.{Filling, filling_none, filling_turn, filling_end}
use Rattle.allocation.specs.Totals.{max_total}
use Rattle.allocation.specs.Offers.{picked, won_by, gain_for, charge_at, gain_at, taken, Offerable, Offered}

-- a gain is at most one more than the total
pub gain_low : (w : Bool) (total charge : ℕ) {g : ℕ} → total ≤ max_total → g ≡ gain_for w total charge
    → g ≤ max_total + 1
unfolding gain_for
gain_low w total charge l e = rw e (only_le w _ _ (λ _. omega arith))

or_and_false : (a b : Bool) → (a or (b and false)) ≡ a
unfolding ◌or◌ ◌and◌
or_and_false true b = refl
or_and_false false true = refl
or_and_false false false = refl

-- above the bar is above the critical total, or at it and below the bound
above_bar : (x t k e : ℕ) → (t ≡ 0 → e ≡ 0) → (t - only (k <? e) 1 <? x) ≡ won_by x t k e
unfolding won_by only
above_bar x t k e none = ⊎_elim
    (λ (l : k < e). rw (is_lt k e l) (⊎_elim
    (λ (p : t < x). is_lt _ _ (omega arith) ∙ sym (or_left _ _ (is_lt t x p)))
    (λ (p : x ≤ t). ⊎_elim
    (λ (q : x ≡ t). is_lt _ _ (above_none l q) ∙ sym (or_right _ _ (both (is_eq x t q) refl)))
    (λ (q : x ≡ t → ⊥). not_lt _ _ (omega arith) ∙ sym (neither (not_lt t x p) (and_no _ _ (not_eq x t q))))
    (eq_or_ne x t))
    (lt_or_le t x)))
    (λ (l : e ≤ k). rw (not_lt k e l, minus_zero t) (sym (or_and_false (t <? x) (x =? t))))
    (lt_or_le k e)
  where
    minus_zero : (t : ℕ) → t - 0 ≡ t
    minus_zero t = omega arith

    above_none : k < e → x ≡ t → t - 1 < x
    above_none l q =
        ⊎_elim (λ (z : 0 < t). omega arith) (λ (z : t ≤ 0). absurd (omega (arith, none (omega arith)))) (lt_or_le 0 t)

pub won_is :
    (x t k e : ℕ) {r : ℕ} {b : Bool} → (t ≡ 0 → e ≡ 0) → r ≡ t - only (k <? e) 1 → b ≡ (r <? x) → b ≡ won_by x t k e
won_is x t k e none er eb = eb ∙ ap (λ r. r <? x) er ∙ above_bar x t k e none

-- whoever wins can pay: its charge is at most its total
pub won_pays : (x t k e least : ℕ) → (0 < x → least ≤ x) → (t ≡ 0 → e ≡ 0) → won_by x t k e ≡ true → max least t ≤ x
unfolding won_by
won_pays x t k e least covers none w = ⊎_elim
    (λ p. let l : t < x = lt_yes _ _ p in omega (arith, covers (omega arith)))
    (λ p.
    let q : x ≡ t = eq_yes _ _ (first _ _ p) in
    let l : k < e = lt_yes _ _ (second _ _ p) in
    ⊎_elim (λ (z : 0 < x). omega (arith, covers z))
    (λ (z : x ≤ 0). absurd (omega (arith, none (omega arith)))) (lt_or_le 0 x))
    (or_cases _ _ w)

pub gain_won : (w : Bool) (total charge x : ℕ) → w ≡ true → x ≡ total - charge → x + 1 ≡ gain_for w total charge
unfolding gain_for
gain_won w total charge x e h = ap (λ x. x + 1) h ∙ sym (only_yes w _ e)

pub gain_lost : (w : Bool) (total charge : ℕ) → w ≡ false → 0 ≡ gain_for w total charge
unfolding gain_for
gain_lost w total charge e = sym (only_no w _ e)

-- the lists after the first i guests have been offered a place
pub record Offering (totals tickets least : List ℕ) (t e s : ℕ) (chosen₀ gains₀ : List ℕ) (i : ℕ)
    (chosen gains : List ℕ) : Type 0 where
  pub chosen_are :
      Filling (length totals) (taken gains₀ (gain_at totals tickets least t e) (λ _. s) chosen₀) chosen₀ chosen i
  pub gains_are :
      Filling (length totals)
      (taken gains₀ (gain_at totals tickets least t e) (gain_at totals tickets least t e) gains₀) gains₀ gains i

pub offers_none :
    {totals tickets least : List ℕ} {t e s : ℕ} {chosen gains : List ℕ}
    → Offerable totals tickets least t e chosen gains → Offering totals tickets least t e s chosen gains 0 chosen gains
offers_none o = record { chosen_are = filling_none o.chosen_long; gains_are = filling_none o.gains_long }

-- the next guest's gain is as it was
pub gain_left :
    {totals tickets least : List ℕ} {t e s : ℕ} {chosen₀ gains₀ : List ℕ} {i : ℕ} {chosen gains : List ℕ}
    → Offerable totals tickets least t e chosen₀ gains₀
    → Offering totals tickets least t e s chosen₀ gains₀ i chosen gains → i < length totals
    → get_or gains i 0 ≤ max_total + 1
gain_left {i = i} o h l = rw (h.gains_are.filled.left i (le_refl i)) (o.gains_low i (omega (arith, o.gains_long)))

-- the best gain so far and the one of this offer, of the total x
pub gains_low :
    {totals tickets least : List ℕ} {t e s : ℕ} {chosen₀ gains₀ : List ℕ} {i : ℕ} {chosen gains : List ℕ}
    (w : Bool) {x z g : ℕ} (c : ℕ)
    → Offerable totals tickets least t e chosen₀ gains₀
    → Offering totals tickets least t e s chosen₀ gains₀ i chosen gains → i < length totals
    → x ≡ get_or totals i 0 → z ≡ get_or gains i 0 → g ≡ gain_for w x c
    → (z ≤ max_total + 1) × (g ≤ max_total + 1)
gains_low {i = i} w c o h l ex ez eg =
    (rw ez (gain_left o h l), gain_low _ _ _ (omega (arith, o.totals_low i l)) eg)

picked_max : (a b : ℕ) → max a b ≡ picked (a <? b) b a
unfolding picked
picked_max a b = ⊎_elim (λ (l : a < b). rw (is_lt a b l) (omega arith)) (λ (l : b ≤ a). rw (not_lt a b l) (omega arith))
    (lt_or_le a b)

-- one guest more: of the total x, the least charge y and the gain z before, the code found w, c and
-- g, and stored v1 and v2
pub offers_more :
    {totals tickets least : List ℕ} {t e s : ℕ} {chosen₀ gains₀ : List ℕ} {i : ℕ} {chosen gains : List ℕ}
    {w : Bool} {x k y z c g v1 v2 : ℕ}
    → Offering totals tickets least t e s chosen₀ gains₀ i chosen gains → i < length totals
    → x ≡ get_or totals i 0 → k ≡ get_or tickets i 0 → y ≡ get_or least i 0 → z ≡ get_or gains i 0
    → w ≡ won_by x t k e → c ≡ max y t → g ≡ gain_for w x c
    → v1 ≡ picked (z <? g) s (get_or chosen i 0) → v2 ≡ max z g
    → Offering totals tickets least t e s chosen₀ gains₀ (i + 1) (set chosen i v1) (set gains i v2)
unfolding taken gain_at charge_at
offers_more {i = i} {z = z} {g = g} h l ex ek ey ez ew ec eg e1 e2 = record {
  chosen_are = filling_turn h.chosen_are l
      (cc (h.gains_are.filled.left i (le_refl i), h.chosen_are.filled.left i (le_refl i)));
  gains_are = filling_turn h.gains_are l (cc (h.gains_are.filled.left i (le_refl i), picked_max z g));
}

pub offers_end : {totals tickets least : List ℕ} {t e s : ℕ} {chosen₀ gains₀ : List ℕ} {i : ℕ} {chosen gains : List ℕ}
    → Offering totals tickets least t e s chosen₀ gains₀ i chosen gains → length totals ≤ i
    → Offered totals tickets least t e s chosen₀ gains₀ chosen gains
offers_end h b = record { chosen_are = filling_end h.chosen_are b; gains_are = filling_end h.gains_are b }

-- offers with no bound are those with a bound of 0
pub at_bound :
    (totals tickets least : List ℕ) (t e s : ℕ) (chosen₀ gains₀ chosen gains : List ℕ) → e ≡ 0
    → Offered totals tickets least t 0 s chosen₀ gains₀ chosen gains
    → Offered totals tickets least t e s chosen₀ gains₀ chosen gains
at_bound totals tickets least t e s chosen₀ gains₀ chosen gains z h = rw z h
