-- Laws of decimal digits, and of writing them.
use Prim.Native.Nat.{ℕ, zero, suc, ◌+◌, ◌*◌, ◌/◌, ◌%◌, ◌^◌, ◌<◌, ◌≤◌}
use mathlib.Core.Bool.{Bool, true, false}
use mathlib.Core.List.{List, [], ◌∷◌, ◌++◌}
use mathlib.Core.Path.{◌≡◌, refl}
use native.Mathlib.Nat.{pow-suc, div-lt_iff_lt-mul}
use native.Mathlib.Numerals.{add-one}
use native.Mathlib.Omega.{arith}
use lib.ListN.{length, length-append}
use Rattle.model.specs.Counting.{◌<?◌}
use Rattle.model.proofs.Tests.{is_lt, not_lt}
use Rattle.model.specs.text.Decimal.{higher, digits, decimal}
use Rattle.sheet.specs.Wrote.{Wrote}
use Rattle.sheet.proofs.Wrote.{wrote_then}

length_higher : (b : Bool) (ds : List ℕ) → length (higher b ds) ≤ length ds
unfolding higher
length_higher true ds = omega arith
length_higher false ds = omega arith

pub length_digits : (k x : ℕ) → length (digits k x) ≤ k
unfolding digits
length_digits zero x = omega arith
length_digits (suc k) x =
    omega (
      arith,
      length-append (higher (x <? 10) (digits k (x / 10))) ((48 + x % 10) ∷ []),
      length_higher (x <? 10) (digits k (x / 10)),
      length_digits k (x / 10),
    )

pub length_decimal : (x : ℕ) → length (decimal x) ≤ 20
unfolding decimal
length_decimal x = length_digits 20 x

-- a digit alone
pub wrote_digit :
    {l l' : List ℕ} {p q : ℕ} (k x : ℕ) → x < 10 → Wrote l p ((48 + x % 10) ∷ []) l' q
    → Wrote l p (digits (k + 1) x) l' q
unfolding digits higher
wrote_digit k x h w = rw (add-one, is_lt x 10 h) w

digits_more : (k x : ℕ) → 10 ≤ x → digits (suc k) x ≡ digits k (x / 10) ++ ((48 + x % 10) ∷ [])
unfolding digits higher
digits_more k x h = rw (not_lt x 10 h)

-- the digits of x / 10 and then the last
pub wrote_last : {l l' l'' : List ℕ} {p q r : ℕ} (k x : ℕ) → 10 ≤ x → x < 10 ^ (k + 1)
    → ((j : ℕ) → x / 10 < 10 ^ (j + 1) → Wrote l p (digits (j + 1) (x / 10)) l' q)
    → Wrote l' q ((48 + x % 10) ∷ []) l'' r → Wrote l p (digits (k + 1) x) l'' r
wrote_last zero x h b f w = absurd (let t : 10 ^ (0 + 1) ≡ 10 = refl in omega arith)
wrote_last (suc j) x h b f w =
    let lower : x / 10 < 10 ^ (j + 1) = (div-lt_iff_lt-mul (let z : 0 < 10 = omega arith in z)).1
    (let e : 10 ^ (suc j + 1) ≡ 10 ^ (j + 1) * 10 = rw (add-one (suc j), add-one j) (pow-suc 10 (suc j)) in
    omega arith) in
    rw (add-one (suc j), digits_more (suc j) x h) (wrote_then (rw (add-one j) at (f j lower)) w)

-- a 64-bit number has at most 20 digits, and a tenth of it at most 19
pub word_digits : (x : ℕ) → x < 2 ^ 64 → x < 10 ^ (19 + 1)
word_digits x h = let e : 2 ^ 64 ≤ 10 ^ 20 = omega arith in omega arith

pub tenth_digits : (x : ℕ) → x < 2 ^ 64 → x / 10 < 10 ^ (18 + 1)
tenth_digits x h = omega arith
