-- Running over digits: their number modulo 2^64, and the number itself where there are few.
use Rattle.std.proofs.Common.{◌≡◌, ℕ, zero, suc, ◌+◌, ◌-◌, ◌*◌, ◌/◌, ◌%◌, ◌^◌, ◌<◌, ◌≤◌, true, false, ◌⊎◌, List, []}
use Rattle.std.proofs.Common.{◌∷◌, length, get_or, sym, refl, ap, ◌∙◌, inl, inr, ⊎_elim, mod-eq_of_lt, div-add-mod'}
use Rattle.std.proofs.Common.{add-one, arith}
use native.Mathlib.Nat.{mod-add-mod, add-mul-mod_self_right}
use Rattle.model.specs.Counting.{◌and◌, only}
use Rattle.model.specs.csv.Places.{is_digit, digits_of, value_of}
use Rattle.model.proofs.Tests.{decide, first, second, le_yes, is_le, not_le, and_false}
use Rattle.model.proofs.csv.Steps.{digits_more, value_more, value_zero}
use Rattle.market_csv.specs.Reached.{past}
use Rattle.market_csv.specs.Runs.{Running}

pub digit_within : (b : ℕ) → is_digit b ≡ true → (48 ≤ b) × (b ≤ 57)
unfolding is_digit
digit_within b e = (le_yes _ _ (first _ _ e), le_yes _ _ (second _ _ e))

-- ten times a wrapped number, and a digit
pub wrapped : (v d : ℕ) → (v * 10 % 2 ^ 64 + d) % 2 ^ 64 ≡ (10 * v + d) % 2 ^ 64
wrapped v d =
    let g : v * 10 + d ≡ 10 * v + d = omega arith in mod-add-mod (v * 10) (2 ^ 64) d ∙ ap (λ x. x % 2 ^ 64) g

pub appended : (v x d r : ℕ) → v ≡ x % 2 ^ 64 → r ≡ (10 * v + d) % 2 ^ 64 → r ≡ (10 * x + d) % 2 ^ 64
appended v x d r a b =
    let g : 10 * x + d ≡ 10 * v + d + 10 * (x / 2 ^ 64) * 2 ^ 64 = omega (arith, div-add-mod' x (2 ^ 64)) in
    b ∙ sym (ap (λ y. y % 2 ^ 64) g ∙ add-mul-mod_self_right (10 * v + d) (10 * (x / 2 ^ 64)) (2 ^ 64))

-- ---- a run that goes on

pub running_none :
    (s : List ℕ) (from : ℕ) → from ≤ length s → digits_of (past s from) ≡ 0 → Running s from 0 from
running_none s from h e = record {
  after = omega arith;
  within = h;
  digits_are = omega arith;
  value_is = sym (ap (λ x. x % 2 ^ 64) (value_zero _ e));
}

pub running_turn :
    {s : List ℕ} {from v at : ℕ} (d r : ℕ) → Running s from v at → at < length s → is_digit (get_or s at 0) ≡ true
    → d ≡ get_or s at 0 - 48 → r ≡ (10 * v + d) % 2 ^ 64 → Running s from r (at + 1)
unfolding past
running_turn {s} {from} {v} {at} d r h l e f g =
    let w : ◌≡◌ {A = ℕ} (at + 1) (suc at) = add-one at in
    rw w (record {
      after = omega (arith, h.after);
      within = omega arith;
      digits_are = digits_more _ _ e ∙ omega (arith, h.digits_are, h.after);
      value_is = appended v _ d r h.value_is g
          ∙ ap (λ x. x % 2 ^ 64) (ap (λ x. 10 * value_of (past s at) + x) f ∙ sym (value_more _ _ e));
    })

pub digit_is : (b : ℕ) → (48 ≤ b) × (b ≤ 57) → is_digit b ≡ true
unfolding is_digit ◌and◌
digit_is b (l, h) = rw (is_le 48 b l, is_le b 57 h) refl

pub no_digit_is : (b : ℕ) → (b < 48) ⊎ (57 < b) → is_digit b ≡ false
unfolding is_digit ◌and◌
no_digit_is b (inl l) = rw (not_le 48 b l) refl
no_digit_is b (inr h) = rw (not_le b 57 h) (and_false _)

-- ---- few digits

unfoldable tens : ℕ → ℕ
tens zero = 1
tens (suc n) = 10 * tens n

value_below : (w : List ℕ) → value_of w < tens (digits_of w)
unfolding value_of digits_of only tens
value_below [] = omega arith
value_below (b ∷ w) = ⊎_elim
    (λ (t : is_digit b ≡ true).
    let e : 1 + digits_of w ≡ suc (digits_of w) = omega arith in
    rw (t, e) (omega (arith, value_below w, digit_within b t)))
    (λ (t : is_digit b ≡ false). rw t (omega arith))
    (decide (is_digit b))

tens_up : (n k : ℕ) → tens n ≤ tens (k + n)
unfolding tens
tens_up n zero = let e : 0 + n ≡ n = omega arith in rw e (omega arith)
tens_up n (suc k) = let e : suc k + n ≡ suc (k + n) = omega arith in rw e (omega (arith, tens_up n k))

-- ten digits fit
pub value_fits : (w : List ℕ) → digits_of w ≤ 10 → value_of w < 2 ^ 64
unfolding tens
value_fits w h =
    let e : 10 - digits_of w + digits_of w ≡ 10 = omega arith in
    let t : tens (digits_of w) ≤ tens 10 = rw e at (tens_up (digits_of w) (10 - digits_of w)) in
    omega (arith, value_below w)

pub run_value : {s : List ℕ} {from v at : ℕ} → Running s from v at → at - from ≤ 10 → v ≡ value_of (past s at)
run_value {s} {at = at} h l = h.value_is ∙ mod-eq_of_lt (value_fits (past s at) (omega (arith, h.digits_are)))
