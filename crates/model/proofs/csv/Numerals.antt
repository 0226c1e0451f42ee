-- A number in decimal: its bytes are digits, as few as it needs, and read one after the other they are the number.
use Prim.Native.Nat.{ℕ, zero, suc, ◌+◌, ◌*◌, ◌/◌, ◌%◌, ◌≤◌, ◌<◌}
use mathlib.Core.Bool.{true, false}
use mathlib.Core.List.{List, [], ◌∷◌, ◌++◌, reverse_aux, reverse_aux-append}
use mathlib.Core.Logic.{⊎_elim}
use mathlib.Core.Path.{◌≡◌}
use native.Mathlib.Nat.{div-add-mod', mod-lt}
use native.Mathlib.Omega.{arith}
use lib.ListN.{length, get_or, length-append}
use Rattle.model.specs.Counting.{◌<?◌, only}
use Rattle.model.specs.csv.Places.{is_digit, value_of}
use Rattle.model.specs.csv.Text.{number_in}
use Rattle.model.specs.text.Decimal.{higher, digits}
use Rattle.model.proofs.Tests.{both, decide, is_le, lt_yes, lt_no}
use Rattle.model.proofs.market.Joining.{each_of_both}

-- digits alone
abbrev pub Digits : List ℕ → Type 0
Digits x = (p : ℕ) → p < length x → is_digit (get_or x p 0) ≡ true

unfoldable pub tens : ℕ → ℕ
tens zero = 1
tens (suc n) = 10 * tens n

digit_byte : (d : ℕ) → d < 10 → is_digit (48 + d) ≡ true
unfolding is_digit
digit_byte d h = both (is_le 48 (48 + d) (omega arith)) (is_le (48 + d) 57 (omega arith))

one_digit : (d : ℕ) → d < 10 → Digits ((48 + d) ∷ [])
one_digit d h zero l = digit_byte d h
one_digit d h (suc p) l = absurd (omega arith)

pub numeral_digits : (k x : ℕ) → Digits (digits k x)
unfolding digits higher
numeral_digits zero x = λ p l. absurd (omega arith)
numeral_digits (suc k) x = ⊎_elim
    (λ (t : x <? 10 ≡ true). rw t (one_digit (x % 10) low))
    (λ (t : x <? 10 ≡ false).
    rw t (each_of_both (digits k (x / 10)) _ (λ b. is_digit b ≡ true) (numeral_digits k (x / 10))
    (one_digit (x % 10) low)))
    (decide (x <? 10))
  where
    low : x % 10 < 10
    low = mod-lt x (omega arith)

pub numeral_some : (k x : ℕ) → 0 < length (digits (suc k) x)
unfolding digits
numeral_some k x = omega (arith, length-append (higher (x <? 10) (digits k (x / 10))) ((48 + x % 10) ∷ []))

fuel : (k x : ℕ) → 10 ≤ x → x < 10 * tens k → 0 < k
unfolding tens
fuel zero x big h = absurd (omega arith)
fuel (suc k) x big h = omega arith

-- a number below the j-th power of ten has at most j digits
pub numeral_few : (k j x : ℕ) → x < tens j → 0 < j → length (digits k x) ≤ j
unfolding tens digits higher
numeral_few zero j x h p = omega arith
numeral_few (suc k) zero x h p = absurd (omega arith)
numeral_few (suc k) (suc j) x h p = ⊎_elim
    (λ (t : x <? 10 ≡ true). rw t (omega arith))
    (λ (t : x <? 10 ≡ false).
    let big = lt_no x 10 t in
    let split : x / 10 * 10 + x % 10 ≡ x = div-add-mod' x 10 in
    let i = numeral_few k j (x / 10) (omega arith) (fuel j x big h) in
    let n = length-append (digits k (x / 10)) ((48 + x % 10) ∷ []) in
    rw t (omega (arith, i, n)))
    (decide (x <? 10))

-- one digit more
value_snoc :
    (x : List ℕ) (d : ℕ) → d < 10
    → value_of (reverse_aux (x ++ ((48 + d) ∷ [])) []) ≡ 10 * value_of (reverse_aux x []) + d
unfolding value_of only
value_snoc x d h = rw (reverse_aux-append x ((48 + d) ∷ []) [], digit_byte d h) (omega arith)

-- x of at most k digits
pub numeral : (k x : ℕ) → x < tens k → 0 < k → number_in (digits k x) ≡ x
unfolding tens digits higher number_in value_of
numeral zero x h p = absurd (omega arith)
numeral (suc k) x h p =
    let low : x % 10 < 10 = mod-lt x (omega arith) in
    let split : x / 10 * 10 + x % 10 ≡ x = div-add-mod' x 10 in
    ⊎_elim
    (λ (t : x <? 10 ≡ true). let l = lt_yes x 10 t in rw t (omega (arith, value_snoc [] (x % 10) low)))
    (λ (t : x <? 10 ≡ false).
    let big = lt_no x 10 t in
    let i = numeral k (x / 10) (omega arith) (fuel k x big h) in
    rw t (omega (arith, value_snoc (digits k (x / 10)) (x % 10) low, i)))
    (decide (x <? 10))
