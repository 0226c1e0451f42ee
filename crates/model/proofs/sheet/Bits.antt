-- Laws of the set bits of a word.
use Prim.Native.Nat.{ℕ, zero, suc, ◌+◌, ◌*◌, ◌-◌, ◌/◌, ◌%◌, ◌^◌, ◌≤◌, ◌<◌, min}
use mathlib.Core.Bool.{true, false}
use mathlib.Core.Logic.{⊎_elim}
use mathlib.Core.Path.{◌≡◌, refl, sym, ap, ◌∙◌}
use native.Mathlib.Nat.{eq-or-lt_of_le, le_of_suc-le-suc, not-suc-le-zero}
use native.Mathlib.Omega.{arith}
use lib.Bits.{bit_and, and_step, and_self}
use lib.Count.{count_trailing_zeros, under}
use Rattle.model.specs.Counting.{only}
use Rattle.model.proofs.Passing.{First}
use Rattle.model.proofs.Tests.{decide, clash, only_yes, only_no, lt_or_le, is_eq, not_eq}
use Rattle.model.specs.sheet.Fields.{has_bit}
use Rattle.model.proofs.sheet.Fields.{bit_is, next_bit}

-- ---- a bit as a digit

pub bit_set : (x j : ℕ) → has_bit x j ≡ true → x / 2 ^ j % 2 ≡ 1
bit_set x j e = omega (arith, bit_is x j, only_yes (has_bit x j) 1 e)

pub bit_clear : (x j : ℕ) → has_bit x j ≡ false → x / 2 ^ j % 2 ≡ 0
bit_clear x j e = omega (arith, bit_is x j, only_no (has_bit x j) 1 e)

pub digit_set : (x j : ℕ) → x / 2 ^ j % 2 ≡ 1 → has_bit x j ≡ true
unfolding has_bit
digit_set x j e = is_eq _ 1 e

pub digit_clear : (x j : ℕ) → x / 2 ^ j % 2 ≡ 0 → has_bit x j ≡ false
unfolding has_bit
digit_clear x j e = not_eq _ 1 (λ f. omega arith)

pub digit_same : (x y j : ℕ) → x / 2 ^ j % 2 ≡ y / 2 ^ j % 2 → has_bit x j ≡ has_bit y j
digit_same x y j e = ⊎_elim
    (λ (t : has_bit y j ≡ true). digit_set x j (e ∙ bit_set y j t) ∙ sym t)
    (λ (t : has_bit y j ≡ false). digit_clear x j (e ∙ bit_clear y j t) ∙ sym t)
    (decide (has_bit y j))

-- no word has a bit where it is 0, or past its width
pub clear_above : (x m j : ℕ) → x < 2 ^ m → m ≤ j → has_bit x j ≡ false
clear_above x zero zero h l = digit_clear x 0 (omega arith)
clear_above x (suc m) zero h l = absurd (not-suc-le-zero l)
clear_above x zero (suc j) h l = next_bit x j ∙ clear_above (x / 2) zero j (omega arith) (omega arith)
clear_above x (suc m) (suc j) h l = next_bit x j ∙ clear_above (x / 2) m j (omega arith) (le_of_suc-le-suc l)

pub clear_zero : (j : ℕ) → has_bit 0 j ≡ false
clear_zero j = clear_above 0 0 j (omega arith) (omega arith)

pub set_within : (x m j : ℕ) → x < 2 ^ m → has_bit x j ≡ true → j < m
set_within x m j h e = ⊎_elim
    (λ (l : j < m). l)
    (λ (l : m ≤ j). absurd (clash e (clear_above x m j h l)))
    (lt_or_le j m)

-- a set bit's power is within the word
pub set_power : (x j : ℕ) → has_bit x j ≡ true → 2 ^ j ≤ x
set_power x zero e = omega (arith, bit_set x 0 e)
set_power x (suc j) e = omega (arith, set_power (x / 2) j (sym (next_bit x j) ∙ e))

-- a word is its bits
pub same_bits : (k x y : ℕ) → x < 2 ^ k → y < 2 ^ k → ((j : ℕ) → j < k → has_bit x j ≡ has_bit y j) → x ≡ y
same_bits zero x y h l e = omega arith
same_bits (suc k) x y h l e =
    let low : x % 2 ≡ y % 2 = omega (arith, bit_is x 0, bit_is y 0, ap (λ b. only b 1) (e 0 (omega arith))) in
    let rest : x / 2 ≡ y / 2 = same_bits k (x / 2) (y / 2) (omega arith) (omega arith)
    (λ j b. sym (next_bit x j) ∙ e (suc j) (omega arith) ∙ next_bit y j) in
    omega arith

-- ---- the lowest set bit

pub lowest_set : (k x : ℕ) → 0 < x → x < 2 ^ k → has_bit x (count_trailing_zeros k x) ≡ true
unfolding count_trailing_zeros
lowest_set zero x p h = absurd (omega arith)
lowest_set (suc k) x p h = go (λ q. lowest_set k (x / 2) q (omega arith)) (x % 2) refl
  where
    go : (0 < x / 2 → has_bit (x / 2) (count_trailing_zeros k (x / 2)) ≡ true) → (d : ℕ) → x % 2 ≡ d
        → has_bit x (under d (count_trailing_zeros k (x / 2))) ≡ true
    go rest zero e = next_bit x (count_trailing_zeros k (x / 2)) ∙ rest (omega arith)
    go rest (suc zero) e = digit_set x 0 (omega arith)
    go rest (suc (suc d)) e = absurd (omega arith)

pub clear_below : (k x i : ℕ) → i < count_trailing_zeros k x → has_bit x i ≡ false
unfolding count_trailing_zeros
clear_below zero x i l = absurd (not-suc-le-zero l)
clear_below (suc k) x i l = go (clear_below k (x / 2)) (x % 2) refl i l
  where
    go : ((i : ℕ) → i < count_trailing_zeros k (x / 2) → has_bit (x / 2) i ≡ false) → (d : ℕ) → x % 2 ≡ d
        → (i : ℕ) → i < under d (count_trailing_zeros k (x / 2)) → has_bit x i ≡ false
    go rest zero e zero l = digit_clear x 0 (omega arith)
    go rest zero e (suc i) l = next_bit x i ∙ rest i (le_of_suc-le-suc l)
    go rest (suc d) e i l = absurd (not-suc-le-zero l)

-- ---- a word without one of its bits

pub without_same : (j x : ℕ) → has_bit x j ≡ true → has_bit (x - 2 ^ j) j ≡ false
without_same zero x e = digit_clear (x - 1) 0 (omega (arith, bit_set x 0 e))
without_same (suc j) x e =
    let f : has_bit (x / 2) j ≡ true = sym (next_bit x j) ∙ e in
    let half : (x - 2 ^ suc j) / 2 ≡ x / 2 - 2 ^ j = omega (arith, set_power (x / 2) j f) in
    next_bit (x - 2 ^ suc j) j ∙ rw half (without_same j (x / 2) f)

pub without_other : (j x i : ℕ) → has_bit x j ≡ true → (i ≡ j → ⊥) → has_bit (x - 2 ^ j) i ≡ has_bit x i
without_other zero x zero e n = absurd (n refl)
without_other zero x (suc i) e n =
    let half : (x - 1) / 2 ≡ x / 2 = omega (arith, bit_set x 0 e) in
    next_bit (x - 1) i ∙ ap (λ y. has_bit y i) half ∙ sym (next_bit x i)
without_other (suc j) x zero e n =
    digit_same (x - 2 ^ suc j) x 0 (omega (arith, set_power x (suc j) e))
without_other (suc j) x (suc i) e n =
    let f : has_bit (x / 2) j ≡ true = sym (next_bit x j) ∙ e in
    let half : (x - 2 ^ suc j) / 2 ≡ x / 2 - 2 ^ j = omega (arith, set_power (x / 2) j f) in
    next_bit (x - 2 ^ suc j) i ∙ ap (λ y. has_bit y i) half
    ∙ without_other j (x / 2) i f (λ q. n (ap suc q)) ∙ sym (next_bit x i)

-- as code makes it
pub without_lowest : (k x : ℕ) → 0 < x → x < 2 ^ k → bit_and x (x - 1) ≡ x - 2 ^ count_trailing_zeros k x
unfolding count_trailing_zeros
without_lowest zero x p h = absurd (omega arith)
without_lowest (suc k) x p h = go (λ q. without_lowest k (x / 2) q (omega arith)) (x % 2) refl
  where
    go : (0 < x / 2 → bit_and (x / 2) (x / 2 - 1) ≡ x / 2 - 2 ^ count_trailing_zeros k (x / 2)) → (d : ℕ) → x % 2 ≡ d
        → bit_and x (x - 1) ≡ x - 2 ^ under d (count_trailing_zeros k (x / 2))
    go rest zero e =
        let half : (x - 1) / 2 ≡ x / 2 - 1 = omega arith in
        let low : min (x % 2) ((x - 1) % 2) ≡ 0 = omega arith in
        let there = set_power (x / 2) _ (lowest_set k (x / 2) (omega arith) (omega arith)) in
        let twice : (x / 2 - 2 ^ count_trailing_zeros k (x / 2)) * 2 + 0
        ≡ x - 2 ^ suc (count_trailing_zeros k (x / 2)) =
        omega (arith, there) in
        and_step x (x - 1) ∙ rw (half, low, rest (omega arith)) twice
    go rest (suc zero) e =
        let half : (x - 1) / 2 ≡ x / 2 = omega arith in
        let low : min (x % 2) ((x - 1) % 2) ≡ 0 = omega arith in
        and_step x (x - 1) ∙ rw (half, low, and_self (x / 2)) (omega arith)
    go rest (suc (suc d)) e = absurd (omega arith)

-- the lowest set bit is the first
pub lowest_first :
    (k x : ℕ) → 0 < x → x < 2 ^ k
    → First k (has_bit x) (has_bit (x - 2 ^ count_trailing_zeros k x)) (count_trailing_zeros k x)
lowest_first k x p h = record {
  within = set_within x k j h set;
  passes = set;
  below = clear_below k x;
  gone = λ i l. ⊎_elim
      (λ (e : i ≡ j). rw e (without_same j x set))
      (λ (b : i < j). without_other j x i set (λ e. omega arith) ∙ clear_below k x i b)
      (eq-or-lt_of_le l);
  kept = λ i l _. without_other j x i set (λ e. omega arith);
}
  where
    j : ℕ
    j = count_trailing_zeros k x

    set : has_bit x j ≡ true
    set = lowest_set k x p h
