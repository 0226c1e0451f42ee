-- Laws of tests: what a test says, and how a fact makes one pass or fail.
use Prim.Native.Nat.{ℕ, ◌≤◌, ◌<◌}
use mathlib.Core.Bool.{Bool, true, false, not}
use mathlib.Core.Logic.{◌⊎◌, inl, inr, ⊎_elim}
use mathlib.Core.Path.{◌≡◌, refl, sym, ap, ap₂}
use native.Mathlib.Nat.{le_refl}
use native.Mathlib.Omega.{arith}
use borrow.Author.Tests.{ltb-true, ltb-false, lt-ltb, le-ltb, leb-true, leb-false, le-leb, lt-leb, eqb-true, eqb-false}
use borrow.Author.Tests.{eq-eqb, ne_eqb}
use Rattle.model.specs.Counting.{◌<?◌, ◌≤?◌, ◌=?◌, ◌and◌, ◌or◌, only}

-- a test and what it comes to
pub decide : (b : Bool) → (b ≡ true) ⊎ (b ≡ false)
decide true = inl refl
decide false = inr refl

pub clash : {b : Bool} → b ≡ true → b ≡ false → ⊥
clash p q = let z : ◌≡◌ {A = ℕ} 0 1 = cc in omega arith

pub both : {a b : Bool} → a ≡ true → b ≡ true → (a and b) ≡ true
unfolding ◌and◌
both p q = ap₂ ◌and◌ p q

pub first : (a b : Bool) → (a and b) ≡ true → a ≡ true
unfolding ◌and◌
first true b e = refl
first false b e = e

pub second : (a b : Bool) → (a and b) ≡ true → b ≡ true
unfolding ◌and◌
second true b e = e
second false true e = refl
second false false e = e

pub and_no : (a b : Bool) → a ≡ false → (a and b) ≡ false
unfolding ◌and◌
and_no true b e = absurd (clash refl e)
and_no false b e = refl

pub and_false : (a : Bool) → (a and false) ≡ false
unfolding ◌and◌
and_false true = refl
and_false false = refl

pub or_cases : (a b : Bool) → (a or b) ≡ true → (a ≡ true) ⊎ (b ≡ true)
unfolding ◌or◌
or_cases true b e = inl e
or_cases false b e = inr e

pub or_left : (a b : Bool) → a ≡ true → (a or b) ≡ true
unfolding ◌or◌
or_left true b e = refl
or_left false b e = absurd (clash e refl)

pub or_right : (a b : Bool) → b ≡ true → (a or b) ≡ true
unfolding ◌or◌
or_right true b e = refl
or_right false b e = e

pub or_no : (a b : Bool) → (a or b) ≡ false → (a ≡ false) × (b ≡ false)
unfolding ◌or◌
or_no true b e = absurd (clash refl e)
or_no false b e = (refl, e)

pub or_skip : {a : Bool} (b : Bool) → a ≡ false → (a or b) ≡ b
unfolding ◌or◌
or_skip b e = rw e

pub neither : {a b : Bool} → a ≡ false → b ≡ false → (a or b) ≡ false
unfolding ◌or◌
neither p q = ap₂ ◌or◌ p q

-- two tests that pass together are one
pub same_test : (a b : Bool) → (a ≡ true → b ≡ true) → (b ≡ true → a ≡ true) → a ≡ b
same_test true b f g = sym (f refl)
same_test false true f g = g refl
same_test false false f g = refl

pub not_not : {b : Bool} → b ≡ false → not b ≡ true
not_not e = ap not e

-- `only b x` against a bound
pub only_le : (b : Bool) (x y : ℕ) → (b ≡ true → x ≤ y) → only b x ≤ y
unfolding only
only_le true x y h = h refl
only_le false x y h = omega arith

pub le_only : (b : Bool) (x : ℕ) → b ≡ true → x ≤ only b x
unfolding only
le_only true x e = le_refl x
le_only false x e = absurd (clash e refl)

pub only_yes : (b : Bool) (x : ℕ) → b ≡ true → only b x ≡ x
unfolding only
only_yes true x e = refl
only_yes false x e = absurd (clash e refl)

pub only_no : (b : Bool) (x : ℕ) → b ≡ false → only b x ≡ 0
unfolding only
only_no true x e = absurd (clash refl e)
only_no false x e = refl

-- the tests, and the facts that they test
pub lt_yes : (a b : ℕ) → a <? b ≡ true → a < b
unfolding ◌<?◌
lt_yes = ltb-true

pub lt_no : (a b : ℕ) → a <? b ≡ false → b ≤ a
unfolding ◌<?◌
lt_no = ltb-false

pub le_yes : (a b : ℕ) → a ≤? b ≡ true → a ≤ b
unfolding ◌≤?◌
le_yes = leb-true

pub le_no : (a b : ℕ) → a ≤? b ≡ false → b < a
unfolding ◌≤?◌
le_no = leb-false

pub eq_yes : (a b : ℕ) → a =? b ≡ true → a ≡ b
unfolding ◌=?◌
eq_yes = eqb-true

pub eq_no : (a b : ℕ) → a =? b ≡ false → a ≡ b → ⊥
unfolding ◌=?◌
eq_no = eqb-false

pub is_lt : (a b : ℕ) → a < b → a <? b ≡ true
unfolding ◌<?◌
is_lt = lt-ltb

pub not_lt : (a b : ℕ) → b ≤ a → a <? b ≡ false
unfolding ◌<?◌
not_lt = le-ltb

pub is_le : (a b : ℕ) → a ≤ b → a ≤? b ≡ true
unfolding ◌≤?◌
is_le = le-leb

pub not_le : (a b : ℕ) → b < a → a ≤? b ≡ false
unfolding ◌≤?◌
not_le = lt-leb

pub is_eq : (a b : ℕ) → a ≡ b → a =? b ≡ true
unfolding ◌=?◌
is_eq = eq-eqb

pub not_eq : (a b : ℕ) → (a ≡ b → ⊥) → a =? b ≡ false
unfolding ◌=?◌
not_eq = ne_eqb

-- the cases
pub lt_or_le : (a b : ℕ) → (a < b) ⊎ (b ≤ a)
lt_or_le a b = ⊎_elim (λ e. inl (lt_yes a b e)) (λ e. inr (lt_no a b e)) (decide (a <? b))

pub eq_or_ne : (a b : ℕ) → (a ≡ b) ⊎ (a ≡ b → ⊥)
eq_or_ne a b = ⊎_elim (λ e. inl (eq_yes a b e)) (λ e. inr (eq_no a b e)) (decide (a =? b))

pub and_true : (a : Bool) → (a and true) ≡ a
unfolding ◌and◌
and_true true = refl
and_true false = refl

pub only_cong : (b : Bool) (x y : ℕ) → (b ≡ true → x ≡ y) → only b x ≡ only b y
unfolding only
only_cong true x y h = h refl
only_cong false x y h = refl
