-- What a call promises, stated once for every entry point and export: faults, value, what it leaves.
use Rattle.std.specs.Prelude.{ℕ, List, ◌≡◌}
use Rattle.model.specs.Verdicts.{Answer, Row, first_fault, giving, updated, number_of}

-- the faults for which a call is refused, in their order; and where there is none, the value of its answer and what it
-- leaves in everything that it is lent
pub record Promise (A L : Type 0) : Type 0 where
  pub faults : List Row
  pub value : A
  pub leaves : L

-- a call keeps a promise, which goes by what it is lent at entry: it is refused with the number of the first fault and
-- leaves all as it was, or it answers the value and leaves at exit what is promised
pub record Keeps {A L : Type 0} (p : L → Promise A L) (entry : L) (answer : Answer A) (exit : L) : Type 0 where
  pub answered : answer ≡ giving (first_fault (p entry).faults) (p entry).value
  pub left : exit ≡ updated (first_fault (p entry).faults) (p entry).leaves entry

-- an exported call does: 0 or the refusal's number; the value in out parameters, which a refusal leaves as they were
pub record KeepsOut {A L : Type 0} (p : L → Promise A L) (entry : L) (out : A) (number : ℕ) (exit : L)
    (out' : A) : Type 0 where
  pub number_is : number ≡ number_of (first_fault (p entry).faults)
  pub left : exit ≡ updated (first_fault (p entry).faults) (p entry).leaves entry
  pub out_is : out' ≡ updated (first_fault (p entry).faults) (p entry).value out

-- one with no value
abbrev pub RepliesOut : {L : Type 0} (p : L → Promise Unit L) (entry : L) (number : ℕ) (exit : L) → Type 0
RepliesOut p entry number exit = KeepsOut p entry tt number exit tt
