-- An exported call's promise, from that of the call and the answer that was told.
use Prim.Native.Nat.{ℕ}
use mathlib.Core.Bool.{Bool, true, false}
use mathlib.Core.Path.{◌≡◌, refl, ap, ◌∙◌}
use mir.Val.{bool_byte}
use Rattle.model.specs.Counting.{only}
use Rattle.model.specs.Promises.{Promise, Keeps, KeepsOut, RepliesOut}
use Rattle.model.specs.Verdicts.{Answer, Verdict, accepted, refused, giving, updated, number_of}
use Rattle.bay_market.specs.Tells.{value_or, Tells}

number_giving : {A : Type 0} (v : Verdict) (a : A) → number_of (giving v a) ≡ number_of v
unfolding giving number_of
number_giving (accepted _) a = refl
number_giving (refused k) a = refl

value_giving : {A : Type 0} (v : Verdict) (a out : A) → value_or out (giving v a) ≡ updated v a out
unfolding giving updated
value_giving (accepted _) a out = refl
value_giving (refused k) a out = refl

pub told :
    {A L : Type 0} {p : L → Promise A L} {entry exit : L} {answer : Answer A} {out out' : A} {number : ℕ}
    → Keeps p entry answer exit → Tells answer out number out' → KeepsOut p entry out number exit out'
told {out = out} c t = record {
  number_is = t.number_is ∙ ap number_of c.answered ∙ number_giving _ _;
  left = c.left;
  out_is = t.out_is ∙ ap (value_or out) c.answered ∙ value_giving _ _ _;
}

-- an answer with no value
pub replied :
    {L : Type 0} {p : L → Promise Unit L} {entry exit : L} {v : Verdict} {number : ℕ} → Keeps p entry v exit
    → number ≡ number_of v → RepliesOut p entry number exit
replied c e = told c (record { number_is = e; out_is = refl })

-- a mark as a byte
pub byte_of : (yes : Bool) → bool_byte yes ≡ only yes 1
unfolding only
byte_of true = refl
byte_of false = refl
