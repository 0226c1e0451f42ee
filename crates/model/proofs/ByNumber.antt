-- Calls under the rule of a number: an unknown one is refused first, and a known one leaves the rest to the tables.
use Prim.Native.Nat.{ℕ}
use mathlib.Core.List.{◌∷◌}
use mathlib.Core.Path.{◌≡◌}
use Rattle.std.specs.Prelude.{Ok, Err}
use Rattle.model.specs.Numbers.{number}
use Rattle.model.specs.Promises.{Promise, Keeps}
use Rattle.model.specs.Verdicts.{Answer, refused, first_fault}
use Rattle.model.specs.market.Faults.{unknown_rule}
use Rattle.model.specs.market.Rules.{named, is_unknown, rule_in, rule_of}
use Rattle.model.specs.declared.refusal.Refusal.{Refusal}
use Rattle.model.specs.declared.rule.Rule.{Rule}
use Rattle.model.proofs.Naming.{no_rule}
use Rattle.model.proofs.Promises.{keeps_refused}
use Rattle.model.proofs.Verdicts.{fault_here}

-- the promise by a number, of what is promised under each rule
abbrev pub by_number : {A L : Type 0} (p : Rule → L → Promise A L) (rule : ℕ) → L → Promise A L
by_number p rule entry = record {
  faults = unknown_rule rule ∷ (p (rule_of rule) entry).faults;
  value = (p (rule_of rule) entry).value;
  leaves = (p (rule_of rule) entry).leaves;
}

module _ {A L : Type 0} (p : Rule → L → Promise A L) (rule : ℕ) {entry : L} where
  pub keeps_unnamed : {e : Refusal} → Err e ≡ named rule → Keeps (by_number p rule) entry (refused (number e)) entry
  unfolding unknown_rule
  keeps_unnamed h = let (u, n) = no_rule rule h in rw n (keeps_refused (fault_here _ u))

  pub keeps_named :
      {known : Rule} {answer : Answer A} {exit : L} → Ok known ≡ named rule → Keeps (p known) entry answer exit
      → Keeps (by_number p rule) entry answer exit
  unfolding unknown_rule is_unknown rule_in first_fault
  keeps_named h c = record { answered = rw (← h) c.answered; left = rw (← h) c.left }
