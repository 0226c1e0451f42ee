-- Laws of lists of stations' numbers that are renewed.
use Rattle.std.proofs.Common.{◌≡◌, ℕ, zero, suc, ◌+◌, ◌<◌, ◌≤◌, List, length, set, sym, ◌∙◌, ⊎_elim, le_refl}
use Rattle.std.proofs.Common.{add-one, arith, length-set, get_or-set_other, get_or-set_same}
use Rattle.model.specs.Counting.{◌<?◌, only, list}
use Rattle.model.specs.market.Mechanism.{at}
use Rattle.model.proofs.Tests.{only_yes, only_no, is_lt, not_lt, eq_or_ne, lt_or_le}
use Rattle.model.proofs.Loops.{long, element, is_list}
use Rattle.quiet.specs.Efficient.{of}
use Rattle.quiet.specs.Criticals.{Renewed}

-- ---- a loop over stations: none is renewed, one more, all

pub renewed_turn :
    {f : ℕ → ℕ} {l₀ l : List ℕ} {j v : ℕ} → Renewed j f l₀ l → j + 1 < length l₀ → v ≡ f j
    → Renewed (j + 1) f l₀ (set l (j + 1) v)
renewed_turn {f} {l₀} {l} {j} {v} h b e = record {
  same = length-set l (j + 1) v ∙ h.same;
  first = get_or-set_other l (j + 1) 0 v 0 (omega arith) ∙ h.first;
  stations = λ k lk. ⊎_elim
      (λ (z : k ≡ j). rw (z, ← add-one j) (get_or-set_same l (j + 1) v 0 (omega (arith, h.same)) ∙ e))
      (λ (z : k ≡ j → ⊥). get_or-set_other l (j + 1) (suc k) v 0 (omega arith) ∙ h.stations k (before k lk z))
      (eq_or_ne k j);
  others = λ k lk. get_or-set_other l (j + 1) (suc k) v 0 (omega arith) ∙ h.others k (omega arith);
}
  where
    before : (k : ℕ) → k < j + 1 → (k ≡ j → ⊥) → k < j
    before k lk z = ⊎_elim (λ (q : k < j). q) (λ (q : j ≤ k). absurd (z (omega arith))) (lt_or_le k j)

-- what is next was not renewed yet
pub renewed_next : {f : ℕ → ℕ} {l₀ l : List ℕ} {j : ℕ} → Renewed j f l₀ l → of l (j + 1) ≡ of l₀ (suc j)
renewed_next {j = j} h = rw add-one (h.others j (le_refl j))

-- ---- lists renewed twice, and zeros

pub renewed_again :
    {m : ℕ} {f g : ℕ → ℕ} {l₀ l₁ l₂ : List ℕ} → Renewed m f l₀ l₁ → Renewed m g l₁ l₂ → Renewed m g l₀ l₂
renewed_again h k = record {
  same = k.same ∙ h.same;
  first = k.first ∙ h.first;
  stations = k.stations;
  others = λ j lj. k.others j lj ∙ h.others j lj;
}

pub renewed_as :
    {m : ℕ} {f : ℕ → ℕ} (g : ℕ → ℕ) {l₀ l : List ℕ} → ((j : ℕ) → j < m → f j ≡ g j) → Renewed m f l₀ l
    → Renewed m g l₀ l
renewed_as g e h =
    record { same = h.same; first = h.first; stations = λ j lj. h.stations j lj ∙ e j lj; others = h.others }

-- zeros that were renewed
module _ (n : ℕ) {m : ℕ} {f : ℕ → ℕ} {l₀ l : List ℕ} (zeros : l₀ ≡ list n (λ _. 0)) (h : Renewed m f l₀ l) where
  at_number : (s : ℕ) → s < n → of l s ≡ only (s <? suc m) (at f s)
  unfolding at
  at_number zero ls = h.first ∙ element n _ zeros 0 ls ∙ sym (only_yes _ _ (is_lt _ _ (omega arith)))
  at_number (suc j) ls = ⊎_elim
      (λ (q : j < m). h.stations j q ∙ sym (only_yes _ _ (is_lt _ _ (omega arith))))
      (λ (q : m ≤ j). h.others j q ∙ element n _ zeros (suc j) ls ∙ sym (only_no _ _ (not_lt _ _ (omega arith))))
      (lt_or_le j m)

  pub renewed_zeros : l ≡ list n (λ s. only (s <? suc m) (at f s))
  renewed_zeros = is_list n _ l (h.same ∙ long n _ zeros) at_number
