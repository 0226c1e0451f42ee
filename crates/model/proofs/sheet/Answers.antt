-- The answer of the checking pass, and what it tells.
use Prim.Native.Nat.{ℕ}
use mathlib.Core.List.{List}
use mathlib.Core.Path.{◌≡◌, sym, ap, ◌∙◌}
use Rattle.model.specs.declared.refusal.Refusal.{Refusal}
use Rattle.model.specs.Numbers.{number, answer_of_reading}
use Rattle.model.specs.Verdicts.{Verdict, accepted, refused, first_fault, giving}
use Rattle.model.proofs.Verdicts.{giving_accepted, giving_refused, gave_accepted, gave_refused}
use Rattle.model.specs.sheet.Content.{guests, stations, sheet_faults}
use Rattle.model.specs.declared.answers.Counts.{Counts}
use Rattle.std.specs.Prelude.{Result, Ok, Err}

-- what the checking pass answers: the header's counts, or the first fault
abbrev pub Checked : List ℕ → Result Counts Refusal → Type 0
Checked s r = answer_of_reading r ≡ giving (first_fault (sheet_faults s)) (guests s, stations s)

pub answer_fault : (s : List ℕ) (x : Refusal) → first_fault (sheet_faults s) ≡ refused (number x)
    → Checked s (Err x)
unfolding answer_of_reading
answer_fault s x e = sym (giving_refused _ _ e)

pub answer_read :
    (s : List ℕ) (c : Counts) → first_fault (sheet_faults s) ≡ accepted tt → c.guests ≡ guests s
    → c.stations ≡ stations s → Checked s (Ok c)
unfolding answer_of_reading
answer_read s c e f g = rw (f, g) (sym (giving_accepted _ e))

pub told_read :
    (v : Verdict) (g h : ℕ) (c : Counts) (r : Result Counts Refusal) → answer_of_reading r ≡ giving v (g, h)
    → r ≡ Ok c → (v ≡ accepted tt) × (c.guests ≡ g) × (c.stations ≡ h)
unfolding answer_of_reading
told_read v g h c r e f =
    let (a, b) = gave_accepted v (g, h) (c.guests, c.stations) (sym e ∙ ap answer_of_reading f) in
    (a, sym (ap (λ p. p.0) b), sym (ap (λ p. p.1) b))

pub told_refused :
    (v : Verdict) (p : ℕ × ℕ) (x : Refusal) (r : Result Counts Refusal) → answer_of_reading r ≡ giving v p → r ≡ Err x
    → v ≡ refused (number x)
unfolding answer_of_reading
told_refused v p x r e f = gave_refused v _ _ (sym e ∙ ap answer_of_reading f)
