-- Laws of fields and bit maps.
use Prim.Native.Nat.{ℕ, zero, suc, ◌+◌, ◌*◌, ◌/◌, ◌%◌, ◌^◌, ◌≤◌, ◌<◌}
use mathlib.Core.Bool.{true, false}
use mathlib.Core.List.{List}
use mathlib.Core.Logic.{⊎_elim}
use mathlib.Core.Path.{◌≡◌, refl, sym, ap, ◌∙◌}
use native.Mathlib.Nat.{div-lt_iff_lt-mul, div-div-eq-div-mul}
use native.Mathlib.Omega.{arith}
use lib.Count.{ones, ones_in, ones_step}
use lib.ListN.{get_or}
use lib.Pow.{pow_mono, pow-add}
use Rattle.model.specs.Counting.{◌=?◌, only, count}
use Rattle.model.proofs.Counting.{count_start, count_cong, count_front}
use Rattle.model.proofs.Tests.{decide, eq_yes, eq_no, only_yes, only_no}
use Rattle.model.specs.sheet.Fields.{little_endian, has_bit}

-- ---- numbers

pub number_low : (s : List ℕ) → ((i : ℕ) → get_or s i 0 < 256) → (p k : ℕ) → little_endian s p k < 256 ^ k
unfolding little_endian
number_low s h p zero = omega arith
number_low s h p (suc k) = omega (arith, number_low s h (p + 1) k, h p)

pub bytes_pow : (k : ℕ) → 2 ^ (8 * k) ≡ 256 ^ k
bytes_pow zero = refl
bytes_pow (suc k) =
    let e : 8 * suc k ≡ 8 + 8 * k = omega arith in rw e (pow-add 2 8 (8 * k) ∙ omega (arith, bytes_pow k))

pub moved : (s : List ℕ) (k p q : ℕ) {v : ℕ} → v ≡ little_endian s p k → p ≡ q → v ≡ little_endian s q k
moved s k p q e f = rw (← f) e

-- ---- bit maps

pub pow_pos : (k : ℕ) → 0 < 2 ^ k
pow_pos zero = omega arith
pow_pos (suc k) = omega (arith, pow_pos k)

-- no bit from m on
pub narrow : (x m : ℕ) → x / 2 ^ m ≤ 0 → x < 2 ^ m
narrow x m h = omega (arith, (div-lt_iff_lt-mul {x = x} {y = 1} (pow_pos m)).0 (omega arith))

pub wide : (x m : ℕ) → x < 2 ^ m → x / 2 ^ m ≤ 0
wide x m h = omega (arith, (div-lt_iff_lt-mul {x = x} {y = 1} (pow_pos m)).1 (omega arith))

pub bit_is : (x j : ℕ) → only (has_bit x j) 1 ≡ x / 2 ^ j % 2
unfolding has_bit
bit_is x j =
    ⊎_elim
    (λ (t : (x / 2 ^ j % 2 =? 1) ≡ true). omega (arith, only_yes _ 1 t, eq_yes (x / 2 ^ j % 2) 1 t))
    (λ (t : (x / 2 ^ j % 2 =? 1) ≡ false). omega
    (arith, only_no _ 1 t, one_or_none (x / 2 ^ j % 2) (omega arith) (eq_no (x / 2 ^ j % 2) 1 t)))
    (decide (x / 2 ^ j % 2 =? 1))
  where
    one_or_none : (y : ℕ) → y < 2 → (y ≡ 1 → ⊥) → y ≡ 0
    one_or_none zero h n = refl
    one_or_none (suc zero) h n = absurd (n refl)
    one_or_none (suc (suc y)) h n = absurd (omega arith)

pub next_bit : (x k : ℕ) → has_bit x (suc k) ≡ has_bit (x / 2) k
unfolding has_bit
next_bit x k = ap (λ y. y % 2 =? 1) (sym (div-div-eq-div-mul x 2 (2 ^ k) ∙ ap (λ y. x / y) (omega arith)))

-- the processor's count of bits is the map's
pub ones_count : (m x : ℕ) → x < 2 ^ m → ones x ≡ count m (has_bit x)
unfolding ones ones_in
ones_count zero x h = let e : x ≡ 0 = omega arith in rw e (sym (count_start (has_bit 0)))
ones_count (suc m) x h = ones_step x
    ∙ sym (count_front m (has_bit x)
    ∙ omega (
      arith,
      bit_is x 0,
      count_cong m (λ k. has_bit x (suc k)) (has_bit (x / 2)) (λ k l. next_bit x k),
      ones_count m (x / 2) (omega arith),
    ))

pub count_narrow : (m x : ℕ) → m ≤ 64 → x < 2 ^ m → count 64 (has_bit x) ≡ count m (has_bit x)
count_narrow m x w h = sym (ones_count 64 x (omega (arith, pow_mono {i = m} {j = 64} w))) ∙ ones_count m x h
