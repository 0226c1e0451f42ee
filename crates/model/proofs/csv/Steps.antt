-- One byte more: the rows of a place at which there is no fault, and how what stands before the next place is counted.
use Prim.Native.Nat.{ℕ, suc, ◌+◌, ◌*◌, ◌-◌, ◌≤◌, ◌<◌}
use mathlib.Core.Bool.{true, false}
use mathlib.Core.List.{List, [], ◌∷◌}
use mathlib.Core.Logic.{⊎_elim}
use mathlib.Core.Path.{◌≡◌, refl}
use native.Mathlib.Omega.{arith}
use Rattle.model.specs.Limits.{max_guests, max_stations}
use Rattle.model.specs.Counting.{◌<?◌, ◌≤?◌, ◌=?◌, ◌and◌, ◌or◌, only}
use Rattle.model.specs.Verdicts.{accepted, first_fault}
use Rattle.model.specs.csv.Places.{comma, cr, lf, is_digit, line_of, field_of, digits_of, value_of, after_cr}
use Rattle.model.specs.csv.Places.{starts_line}
use Rattle.model.specs.csv.Faults.{fields_of, too_large, too_many, is_missing, misplaced, byte_faults}
use Rattle.model.proofs.Tests.{decide, first, le_yes, neither, not_eq, not_lt}

-- ---- tests of a byte

pub digit_tests : (b : ℕ) → is_digit b ≡ true → (b =? comma ≡ false) × (b =? cr ≡ false) × (b =? lf ≡ false)
unfolding is_digit
digit_tests b e =
    let l : 48 ≤ b = le_yes 48 b (first _ _ e) in
    (not_eq b 44 (λ q. omega arith), not_eq b 13 (λ q. omega arith), not_eq b 10 (λ q. omega arith))

-- ---- the counts

pub line_other : (b : ℕ) (w : List ℕ) → b =? lf ≡ false → line_of (b ∷ w) ≡ line_of w
unfolding line_of only
line_other b w e = rw e (omega arith)

pub line_lf : (w : List ℕ) → line_of (lf ∷ w) ≡ suc (line_of w)
unfolding line_of only ◌=?◌
line_lf w = omega arith

pub field_other : (b : ℕ) (w : List ℕ) → b =? lf ≡ false → b =? comma ≡ false → field_of (b ∷ w) ≡ field_of w
unfolding field_of only
field_other b w e f = rw (e, f) (omega arith)

pub field_comma : (w : List ℕ) → field_of (comma ∷ w) ≡ suc (field_of w)
unfolding field_of only ◌=?◌
field_comma w = omega arith

pub field_lf : (w : List ℕ) → field_of (lf ∷ w) ≡ 0
unfolding field_of only ◌=?◌
field_lf w = refl

pub digits_more : (b : ℕ) (w : List ℕ) → is_digit b ≡ true → digits_of (b ∷ w) ≡ suc (digits_of w)
unfolding digits_of only
digits_more b w e = rw e (omega arith)

pub digits_none : (b : ℕ) (w : List ℕ) → is_digit b ≡ false → digits_of (b ∷ w) ≡ 0
unfolding digits_of only
digits_none b w e = rw e refl

pub value_more : (b : ℕ) (w : List ℕ) → is_digit b ≡ true → value_of (b ∷ w) ≡ 10 * value_of w + (b - 48)
unfolding value_of only
value_more b w e = rw e refl

pub value_zero : (w : List ℕ) → digits_of w ≡ 0 → value_of w ≡ 0
unfolding value_of digits_of only
value_zero [] e = refl
value_zero (b ∷ w) e = ⊎_elim
    (λ (t : is_digit b ≡ true). absurd (omega (arith, rw t at e)))
    (λ (t : is_digit b ≡ false). rw t refl)
    (decide (is_digit b))

-- ---- the rows of a place

-- before guest line 201 there is room for a line
pub room : (w : List ℕ) → line_of w < 202 → (starts_line w and line_of w =? 2 + max_guests) ≡ false
unfolding ◌and◌
room w h = let e : line_of w =? 202 ≡ false = not_eq _ _ (λ q. omega arith) in ⊎_elim
    (λ (t : starts_line w ≡ true). rw (t, e) refl)
    (λ (t : starts_line w ≡ false). rw t refl)
    (decide (starts_line w))

pub large_none : (w : List ℕ) → digits_of w ≡ 0 → too_large w ≡ false
unfolding too_large
large_none w e =
    neither (not_lt _ _ (omega arith)) (let z = value_zero w e in not_lt _ _ (omega arith))

-- no row holds at a digit, unless it is the first byte of guest line 201
pub digit_free :
    (m : ℕ) (w : List ℕ) (b : ℕ) → is_digit b ≡ true → after_cr w ≡ false
    → (starts_line w and line_of w =? 2 + max_guests) ≡ false → first_fault (byte_faults m w b) ≡ accepted tt
unfolding byte_faults too_many misplaced ◌and◌ ◌or◌ first_fault
digit_free m w b e c h = let d = digit_tests b e in rw (e, d.0, d.1, d.2, c, h) refl

pub comma_free :
    (m : ℕ) (w : List ℕ) → too_large w ≡ false → after_cr w ≡ false
    → (line_of w =? 0 and field_of w + 1 =? max_stations) ≡ false
    → (starts_line w and line_of w =? 2 + max_guests) ≡ false → is_missing w ≡ false
    → (field_of w + 1 =? fields_of m (line_of w)) ≡ false → first_fault (byte_faults m w comma) ≡ accepted tt
unfolding byte_faults too_many misplaced is_digit ◌≤?◌ ◌=?◌ ◌and◌ ◌or◌ first_fault
comma_free m w a c e f i g = rw (a, c, e, f, i, g) refl

pub cr_free :
    (m : ℕ) (w : List ℕ) → too_large w ≡ false → after_cr w ≡ false
    → (starts_line w and line_of w =? 2 + max_guests) ≡ false → is_missing w ≡ false
    → (field_of w + 1 <? fields_of m (line_of w)) ≡ false → first_fault (byte_faults m w cr) ≡ accepted tt
unfolding byte_faults too_many misplaced is_digit ◌≤?◌ ◌=?◌ ◌and◌ ◌or◌ first_fault
cr_free m w a c f i g = rw (a, c, f, i, g) refl

pub lf_free :
    (m : ℕ) (w : List ℕ) → too_large w ≡ false → after_cr w ≡ true
    → (starts_line w and line_of w =? 2 + max_guests) ≡ false → first_fault (byte_faults m w lf) ≡ accepted tt
unfolding byte_faults too_many misplaced is_digit ◌≤?◌ ◌=?◌ ◌and◌ ◌or◌ first_fault
lf_free m w a c f = rw (a, c, f) refl
