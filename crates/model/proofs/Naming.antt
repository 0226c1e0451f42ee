-- Which rule a number names, and what a caller of `Rule::try_from` learns from its answer.
use Prim.Native.Nat.{ℕ}
use mathlib.Core.Bool.{Bool, true, false, cond}
use mathlib.Core.Path.{◌≡◌, refl, ap}
use native.Mathlib.Omega.{arith}
use Rattle.std.specs.Prelude.{Result, Ok, Err}
use Rattle.model.specs.Counting.{◌=?◌}
use Rattle.model.specs.Numbers.{number}
use Rattle.model.specs.market.Rules.{named, is_unknown, rule_in, rule_of}
use Rattle.model.specs.declared.rule.Rule.{Rule}
use Rattle.model.specs.declared.rule.Rule.TheVariants.{Median, TwoThirds}
use Rattle.model.specs.declared.refusal.Refusal.{Refusal}
use Rattle.model.specs.declared.refusal.Refusal.TheVariants.{UnknownRule}
use Rattle.model.proofs.Tests.{not_eq}

pub names_median : (k : ℕ) → k ≡ 1 → Ok Median ≡ named k
unfolding named ◌=?◌
names_median k e = rw e refl

pub names_two_thirds : (k : ℕ) → k ≡ 2 → Ok TwoThirds ≡ named k
unfolding named ◌=?◌
names_two_thirds k e = rw e refl

pub names_none : (k : ℕ) → (k ≡ 1 → ⊥) → (k ≡ 2 → ⊥) → Err UnknownRule ≡ named k
unfolding named
names_none k n m = rw (not_eq k 1 n, not_eq k 2 m) refl

-- the number names this rule
pub known_rule : (k : ℕ) {r : Rule} → Ok r ≡ named k → (is_unknown (named k) ≡ false) × (rule_of k ≡ r)
unfolding is_unknown rule_in
known_rule k e = rw (← e) (refl, refl)

-- it names none, and the refusal is that fault's
pub no_rule : (k : ℕ) {e : Refusal} → Err e ≡ named k → (is_unknown (named k) ≡ true) × (number e ≡ 18)
unfolding named is_unknown
no_rule k {e} h = go (k =? 1) (k =? 2) h
  where
    go : (x y : Bool)
        → ◌≡◌ {A = Result Rule Refusal} (Err e) (cond x (Ok Median) (cond y (Ok TwoThirds) (Err UnknownRule)))
        → (is_unknown (cond x (Ok Median) (cond y (Ok TwoThirds) (Err UnknownRule))) ≡ true) × (number e ≡ 18)
    go true y h = let z : ◌≡◌ {A = ℕ} 0 1 = cc in absurd (omega arith)
    go false true h = let z : ◌≡◌ {A = ℕ} 0 1 = cc in absurd (omega arith)
    go false false h = let is : e ≡ UnknownRule = cc in (refl, ap number is)
