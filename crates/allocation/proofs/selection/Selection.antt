-- Laws of counts above a bar: the least number with few above it.
use Prim.Native.Nat.{ℕ, ◌+◌, ◌≤◌, ◌<◌}
use mathlib.Core.List.{List}
use mathlib.Core.Logic.{⊎_elim}
use mathlib.Core.Path.{◌≡◌, sym, ap, ◌∙◌}
use native.Mathlib.Nat.{le_trans, le_antisymm}
use native.Mathlib.Omega.{arith}
use lib.ListN.{get_or, length}
use Rattle.model.specs.Counting.{◌<?◌, ◌≤?◌, ◌and◌, only, greatest, list}
use Rattle.model.proofs.Tests.{first, second, both, clash, only_le, le_only, is_lt, not_lt, is_le, lt_yes, le_yes}
use Rattle.model.proofs.Tests.{lt_or_le}
use Rattle.model.proofs.Counting.{count_mono, count_strict, count_none, length_list, get_d_list, le_greatest}
use Rattle.model.proofs.Counting.{greatest_le, search_below}
use Rattle.allocation.specs.Selection.{above, greatest_up_to, Selected}

pub above_falls : (l : List ℕ) (s t : ℕ) → s ≤ t → above l t ≤ above l s
unfolding above
above_falls l s t h = count_mono (length l) _ _ (λ k _ p. is_lt _ _ (omega (arith, lt_yes t _ p)))

-- a bisection's step: what holds at mid holds below it. n is the count that the code took at mid
pub many_below : (l : List ℕ) (b mid n : ℕ) → n ≡ above l mid → b < n → (u : ℕ) → u < mid + 1 → b < above l u
many_below l b mid n e h u a = omega (arith, above_falls l u mid (omega arith))

le_up_to : (l : List ℕ) (t k : ℕ) → k < length l → get_or l k 0 ≤ t → get_or l k 0 ≤ greatest_up_to l t
unfolding greatest_up_to
le_up_to l t k lk h =
    le_trans (le_only _ _ (is_le _ _ h)) (le_greatest (length l) (λ k. only (get_or l k 0 ≤? t) (get_or l k 0)) k lk)

-- nothing is above the greatest of all
pub above_greatest : (n : ℕ) (f : ℕ → ℕ) (l : List ℕ) → l ≡ list n f → above l (greatest n f) ≡ 0
unfolding above
above_greatest n f l e = count_none (length l) _ (λ k lk p.
    let ln : k < n = omega (arith, ap length e ∙ length_list n f) in
    omega (arith, lt_yes _ _ p, le_greatest n f k ln, ap (λ l. get_or l k 0) e ∙ get_d_list n f k ln))

-- where nothing is above r, and something above 0, r is above 0
pub greatest_positive : (l : List ℕ) (r n b : ℕ) → above l r ≡ 0 → n ≡ above l 0 → b < n → 1 ≤ r
greatest_positive l r n b z e h =
    ⊎_elim (λ p. p) (λ (p : r ≤ 0). absurd (omega (arith, above_falls l r 0 p))) (lt_or_le 0 r)

up_to_le : (l : List ℕ) (t : ℕ) → greatest_up_to l t ≤ t
unfolding greatest_up_to
up_to_le l t = greatest_le (length l) _ t (λ k lk. only_le _ _ _ (λ p. le_yes _ _ p))

-- no element lies between the two
above_up_to : (l : List ℕ) (t : ℕ) → above l (greatest_up_to l t) ≡ above l t
unfolding above
above_up_to l t = le_antisymm
    (count_mono (length l) _ _ (λ k lk p. ⊎_elim
    (λ (z : t < get_or l k 0). is_lt _ _ z)
    (λ (z : get_or l k 0 ≤ t). absurd (omega (arith, lt_yes _ _ p, le_up_to l t k lk z)))
    (lt_or_le t (get_or l k 0))))
    (above_falls l (greatest_up_to l t) t (up_to_le l t))

-- where b elements are above t, the greatest up to t is the least with b above it
pub up_to_selected : (l : List ℕ) (b t a : ℕ) → a ≡ above l t → a ≡ b → Selected l b (greatest_up_to l t) a
unfolding above greatest_up_to
up_to_selected l b t a e q =
    record {
      least_few = record { few = omega (arith, above_up_to l t); least = λ u lu. omega (arith, less u lu) };
      counted = e ∙ sym (above_up_to l t);
    }
  where
    less : (u : ℕ) → u < greatest_up_to l t → above l t < above l u
    less u lu = ⊎_elim
        (λ (k, lk, p).
        let a : u < get_or l k 0 = lt_yes _ _ (first _ _ p) in
        let b : get_or l k 0 ≤ t = le_yes _ _ (second _ _ p) in
        count_strict (length l) _ _ (λ j _ q. is_lt _ _ (omega (arith, lt_yes t _ q))) k lk
        (not_lt _ _ b) (is_lt _ _ a))
        (λ none. absurd (omega (
          arith,
          greatest_le (length l) _ u (λ k lk. only_le _ _ _ (λ p. ⊎_elim
              (λ (z : u < get_or l k 0). absurd (clash (both (is_lt _ _ z) p) (none k lk)))
              (λ (z : get_or l k 0 ≤ u). z)
              (lt_or_le u (get_or l k 0)))),
        )))
        (search_below (length l) (λ k. u <? get_or l k 0 and get_or l k 0 ≤? t))

-- the least number with few above it is no more than one with none above it
pub selected_low : {l : List ℕ} {b t a top : ℕ} → Selected l b t a → above l top ≡ 0 → t ≤ top
selected_low {l} {b} {t} {top = top} s z =
    ⊎_elim (λ (p : top < t). absurd (omega (arith, s.least_few.least top p))) (λ p. p) (lt_or_le top t)
