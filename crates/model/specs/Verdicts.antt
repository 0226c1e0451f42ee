-- Answers, and the tables of faults that they come from. A refusal is document 01's number.
use Rattle.std.specs.Prelude.{ℕ, Bool, true, false, List, [], ◌∷◌}

-- what a call comes to: accepted with this, or refused with that number
pub data Answer (A : Type 0) : Type 0 where
  accepted : A → Answer A
  refused : ℕ → Answer A

-- a row of a table of faults: where the condition holds, the call is refused with the number
infix 20 ◌gives◌
pub data Row : Type 0 where
  ◌gives◌ : Bool → ℕ → Row

-- an answer with no value: accepted, or refused with the number of the first row whose condition holds
abbrev pub Verdict : Type 0
Verdict = Answer Unit

unfoldable pub first_fault : List Row → Verdict
first_fault [] = accepted tt
first_fault ((true gives k) ∷ rows) = refused k
first_fault ((false gives k) ∷ rows) = first_fault rows

-- the answer with this value where it accepts
unfoldable pub giving : {A B : Type 0} → Answer A → B → Answer B
giving (accepted a) b = accepted b
giving (refused k) b = refused k

-- what is lent, afterwards: new where the call is accepted, else as it was
unfoldable pub updated : {A B : Type 0} → Answer A → (new old : B) → B
updated (accepted a) new old = new
updated (refused k) new old = old

-- the answer as one number: 0 where accepted
unfoldable pub number_of : {A : Type 0} → Answer A → ℕ
number_of (accepted a) = 0
number_of (refused k) = k
