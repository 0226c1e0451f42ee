-- How a call keeps its promise, and what a caller learns from an answer: laws for every promise.
use Prim.Native.Nat.{ℕ}
use mathlib.Core.Path.{◌≡◌, refl, sym, ap, ◌∙◌}
use Rattle.model.specs.Promises.{Promise, Keeps, KeepsOut}
use Rattle.model.specs.Verdicts.{Answer, Verdict, accepted, refused, first_fault, giving, updated}
use Rattle.model.proofs.Verdicts.{giving_accepted, giving_refused, gave_accepted, gave_refused}
use Rattle.model.proofs.Verdicts.{updated_accepted, updated_refused, number_accepted}

-- two parts of what is lent
pub updated_both :
    {A B C : Type 0} (f : A → B → C) (v : Verdict) (a a' : A) (b b' : B)
    → f (updated v a a') (updated v b b') ≡ updated v (f a b) (f a' b')
unfolding updated
updated_both f (accepted _) a a' b b' = refl
updated_both f (refused k) a a' b b' = refl

-- an answer with no value is its verdict
pub giving_nothing : (v : Verdict) → giving v tt ≡ v
unfolding giving
giving_nothing (accepted _) = refl
giving_nothing (refused k) = refl

module _ {A L : Type 0} {p : L → Promise A L} {entry : L} where
  pub keeps_refused : {k : ℕ} → first_fault (p entry).faults ≡ refused k → Keeps p entry (refused k) entry
  keeps_refused e = record { answered = sym (giving_refused _ _ e); left = sym (updated_refused _ _ _ e) }

  pub keeps_accepted :
      {value : A} {exit : L} → first_fault (p entry).faults ≡ accepted tt → value ≡ (p entry).value
      → exit ≡ (p entry).leaves → Keeps p entry (accepted value) exit
  keeps_accepted e v l =
      record { answered = ap accepted v ∙ sym (giving_accepted _ e); left = l ∙ sym (updated_accepted _ _ e) }

  -- an export answers 0 then
  pub keeps_zero :
      (out : A) → first_fault (p entry).faults ≡ accepted tt
      → KeepsOut p entry out 0 (p entry).leaves (p entry).value
  keeps_zero out e = record {
    number_is = sym (number_accepted e);
    left = sym (updated_accepted _ _ e);
    out_is = sym (updated_accepted _ _ e);
  }

  module _ {answer : Answer A} {exit : L} (c : Keeps p entry answer exit) where
    pub was_refused : {k : ℕ} → answer ≡ refused k → (first_fault (p entry).faults ≡ refused k) × (exit ≡ entry)
    was_refused q =
        let v = gave_refused _ _ _ (sym c.answered ∙ q) in
        (v, c.left ∙ updated_refused _ _ _ v)

    pub was_accepted :
        {value : A} → answer ≡ accepted value
        → (first_fault (p entry).faults ≡ accepted tt) × ((p entry).value ≡ value) × (exit ≡ (p entry).leaves)
    was_accepted q =
        let (v, e) = gave_accepted _ _ _ (sym c.answered ∙ q) in
        (v, e, c.left ∙ updated_accepted _ _ v)
