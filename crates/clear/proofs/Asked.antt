-- What the arguments ask for, case by case.
use Prim.Native.Nat.{ℕ, zero, suc, ◌-◌}
use Rattle.std.proofs.Common.{eqb, ◌&&◌, Option, Some, None}
use Rattle.std.specs.Cmp.Lexicographic.{pointwise}
use mathlib.Core.Bool.{Bool, true, false, cond}
use mathlib.Core.List.{List, [], ◌∷◌}
use mathlib.Core.Path.{◌≡◌, refl, sym, ap, ◌∙◌}
use native.Mathlib.Omega.{arith}
use lib.ListN.{take}
use Rattle.model.specs.Counting.{◌=?◌, ◌and◌}
use Rattle.model.specs.text.Asked.{csv_word, quiet_word, why_word, write_word, rule_word, one_word, two_word, ◌spells◌}
use Rattle.model.specs.text.Asked.{rule_spelt, rule_asked, asked_for, by_rule, sheet_asked, page_asked, asked}
use Rattle.model.specs.declared.page.Layout.{Layout}
use Rattle.model.specs.declared.page.Layout.TheVariants as layout
use Rattle.model.specs.declared.page.Page.TheVariants as page
use Rattle.model.specs.declared.page.Asked.{Asked}
use Rattle.model.specs.declared.rule.Rule.{Rule}
use Rattle.model.specs.declared.rule.Rule.TheVariants.{Median, TwoThirds}

pub spells_as : (x y : List ℕ) → pointwise eqb x y ≡ x spells y
unfolding ◌spells◌ ◌and◌ ◌=?◌
spells_as [] [] = refl
spells_as [] (b ∷ y) = refl
spells_as (a ∷ x) [] = refl
spells_as (a ∷ x) (b ∷ y) = rw (spells_as x y) (by_cases (eqb a b) (x spells y))
  where
    by_cases : (p q : Bool) → (p && q) ≡ (p and q)
    by_cases true q = refl
    by_cases false q = refl

-- ---- the rule

module _ (x : List ℕ) where
  pub is_one : x spells one_word ≡ true → Some Median ≡ rule_spelt x
  unfolding rule_spelt
  is_one e = rw e refl

  pub is_two : x spells one_word ≡ false → x spells two_word ≡ true → Some TwoThirds ≡ rule_spelt x
  unfolding rule_spelt
  is_two n e = rw (n, e) refl

  pub is_neither : x spells one_word ≡ false → x spells two_word ≡ false → None ≡ rule_spelt x
  unfolding rule_spelt
  is_neither n m = rw (n, m) refl

-- after the page's own argument
abbrev after : (k : ℕ) (option number : List ℕ) → List (List ℕ)
after k option number = take k (option ∷ number ∷ [] ∷ [])

pub none_left : (k : ℕ) (option number : List ℕ) → k ≡ 0 → Some Median ≡ rule_asked (after k option number)
unfolding rule_asked
none_left k option number z = rw z refl

pub not_two :
    (k : ℕ) (option number : List ℕ) → (k ≡ 0 → ⊥) → (k ≡ 2 → ⊥) → None ≡ rule_asked (after k option number)
unfolding rule_asked
not_two zero option number n m = absurd (n refl)
not_two (suc zero) option number n m = refl
not_two (suc (suc zero)) option number n m = absurd (m refl)
not_two (suc (suc (suc k))) option number n m = refl

pub not_rule :
    (k : ℕ) (option number : List ℕ) → k ≡ 2 → option spells rule_word ≡ false
    → None ≡ rule_asked (after k option number)
unfolding rule_asked
not_rule k option number z n = rw (z, n) refl

pub is_rule :
    (k : ℕ) (option number : List ℕ) {r : Option Rule} → k ≡ 2 → option spells rule_word ≡ true → r ≡ rule_spelt number
    → r ≡ rule_asked (after k option number)
unfolding rule_asked
is_rule k option number z e s = rw (z, e) s

-- ---- the page

one_less : (k : ℕ) → suc k - 1 ≡ k
one_less k = omega arith

module _ (of : Layout) (a b c : List ℕ) where
  abbrev line : ℕ → List (List ℕ)
  line k = take k (a ∷ b ∷ c ∷ [] ∷ [])

  pub asks_none : {k : ℕ} → k ≡ 0 → asked_for of (page.Clearing Median) ≡ page_asked of (line k)
  unfolding page_asked rule_asked by_rule
  asks_none z = rw z refl

  pub asks_quiet :
      (k : ℕ) (r : Option Rule) → (k ≡ 0 → ⊥) → a spells quiet_word ≡ true → r ≡ rule_asked (after (k - 1) b c)
      → by_rule of page.Efficient r ≡ page_asked of (line k)
  unfolding page_asked
  asks_quiet zero r n q e = absurd (n refl)
  asks_quiet (suc k) r n q e = rw (q, ← one_less k) (ap (by_rule of page.Efficient) e)

  module _ (q : a spells quiet_word ≡ false) where
    pub asks_why :
        (k : ℕ) (r : Option Rule) → (k ≡ 0 → ⊥) → a spells why_word ≡ true → r ≡ rule_asked (after (k - 1) b c)
        → by_rule of page.Reasons r ≡ page_asked of (line k)
    unfolding page_asked
    asks_why zero r n w e = absurd (n refl)
    asks_why (suc k) r n w e = rw (q, w, ← one_less k) (ap (by_rule of page.Reasons) e)

    module _ (w : a spells why_word ≡ false) where
      pub asks_sheet :
          {k : ℕ} → a spells write_word ≡ true → k ≡ 1 → asked_for of page.Sheet ≡ page_asked of (line k)
      unfolding page_asked sheet_asked
      asks_sheet s z = rw (z, q, w, s) refl

      pub asks_more :
          (k : ℕ) → a spells write_word ≡ true → (k ≡ 0 → ⊥) → (k ≡ 1 → ⊥) → None ≡ page_asked of (line k)
      unfolding page_asked sheet_asked
      asks_more zero s n m = absurd (n refl)
      asks_more (suc zero) s n m = absurd (m refl)
      asks_more (suc (suc k)) s n m = rw (q, w, s) refl

      pub asks_clearing :
          (k : ℕ) (r : Option Rule) → (k ≡ 0 → ⊥) → a spells write_word ≡ false → r ≡ rule_asked (after k a b)
          → by_rule of page.Clearing r ≡ page_asked of (line k)
      unfolding page_asked rule_asked
      asks_clearing zero r n s e = absurd (n refl)
      asks_clearing (suc zero) r n s e = rw (q, w, s) (ap (by_rule of page.Clearing) e)
      asks_clearing (suc (suc zero)) r n s e = rw (q, w, s) (ap (by_rule of page.Clearing) e)
      asks_clearing (suc (suc (suc k))) r n s e = rw (q, w, s) (ap (by_rule of page.Clearing) e)

-- ---- the layout

either : {A : Type 0} (test : Bool) {x y z : A} → x ≡ z → y ≡ z → cond test x y ≡ z
either true h k = h
either false h k = k

-- more than three words name no page
too_many :
    (of : Layout) (a b c d : List ℕ) (rest : List (List ℕ)) → page_asked of (a ∷ b ∷ c ∷ d ∷ rest) ≡ None
unfolding page_asked by_rule rule_asked sheet_asked
too_many of a b c d rest =
    either (a spells quiet_word) refl (either (a spells why_word) refl (either (a spells write_word) refl refl))

module _ (a b c d : List ℕ) where
  abbrev words : ℕ → List (List ℕ)
  words k = take k (a ∷ b ∷ c ∷ d ∷ [] ∷ [])

  pub all_none :
      {r : Option Asked} {k : ℕ} → k ≡ 0 → r ≡ page_asked layout.Sheet (line layout.Sheet a b c 0) → r ≡ asked (words k)
  unfolding asked
  all_none z e = rw z e

  pub all_csv :
      {r : Option Asked} (k : ℕ) → (k ≡ 0 → ⊥) → a spells csv_word ≡ true
      → r ≡ page_asked layout.Csv (line layout.Csv b c d (k - 1)) → r ≡ asked (words k)
  unfolding asked
  all_csv zero n w e = absurd (n refl)
  all_csv (suc k) n w e = rw w (rw (one_less k) at e)

  pub all_sheet :
      {r : Option Asked} (k : ℕ) → (k ≡ 0 → ⊥) → a spells csv_word ≡ false
      → r ≡ page_asked layout.Sheet (line layout.Sheet a b c k) → r ≡ asked (words k)
  unfolding asked
  all_sheet zero n w e = absurd (n refl)
  all_sheet (suc zero) n w e = rw w e
  all_sheet (suc (suc zero)) n w e = rw w e
  all_sheet (suc (suc (suc zero))) n w e = rw w e
  all_sheet (suc (suc (suc (suc k)))) n w e =
      rw w (e ∙ too_many layout.Sheet a b c [] _ ∙ sym (too_many layout.Sheet a b c d _))
