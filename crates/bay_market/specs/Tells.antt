-- How an answer is told to other languages: its number, and its value in the out parameters, which a refusal leaves.
use Rattle.std.specs.Prelude.{ℕ, ◌≡◌}
use Rattle.model.specs.Verdicts.{Answer, accepted, refused, number_of}

-- the value, or what is there where there is none
abbrev pub value_or : {A : Type 0} (out : A) → Answer A → A
value_or out (accepted a) = a
value_or out (refused k) = out

pub record Tells {A : Type 0} (answer : Answer A) (out : A) (number : ℕ) (out' : A) : Type 0 where
  pub number_is : number ≡ number_of answer
  pub out_is : out' ≡ value_or out answer
