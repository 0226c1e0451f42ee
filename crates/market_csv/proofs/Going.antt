-- Along a line, field by field, into a row.
use Rattle.std.proofs.Common.{◌≡◌, ℕ, suc, ◌+◌, ◌<◌, Bool, true, false, eqb, List, length, get_or, set, sym}
use Rattle.std.proofs.Common.{refl, ap, ◌∙◌, inr, ⊎_elim, arith, get_or-set_other, Ok, Err}
use Rattle.std.proofs.Common.{get_or-set_same, below_none, below_more, eq-eqb, ne_eqb}
use Rattle.model.specs.Counting.{◌=?◌}
use Rattle.model.specs.declared.refusal.Refusal.{Refusal}
use Rattle.model.specs.csv.Places.{starts_line}
use Rattle.model.specs.csv.Content.{value}
use Rattle.model.proofs.Tests.{and_no, eq_or_ne}
use Rattle.market_csv.specs.Reached.{Place, past, Reached}
use Rattle.market_csv.specs.Ends.{Open, Due, After, Taken, TookAs, TakeRead}
use Rattle.market_csv.specs.Rows.{FaultIs, RowDue, RowEnd}

last_is : (first j m : ℕ) → eqb (j + 1) m ≡ (first + j + 1 =? first + m)
unfolding ◌=?◌
last_is first j m = ⊎_elim
    (λ (e : j + 1 ≡ m). eq-eqb (j + 1) m e ∙ sym (eq-eqb (first + j + 1) (first + m) (omega arith)))
    (λ (e : j + 1 ≡ m → ⊥). ne_eqb (j + 1) m e
    ∙ sym (ne_eqb (first + j + 1) (first + m) (λ (z : first + j + 1 ≡ first + m). e (omega arith))))
    (eq_or_ne (j + 1) m)

pub after_more :
    {s : List ℕ} {line field ended at : ℕ} (last : Bool) → last ≡ false → After s line field ended last at
    → Reached s at line (suc field) (suc ended) 0 × (starts_line (past s at) ≡ false)
unfolding After
after_more last e a = rw e at a

after_last :
    {s : List ℕ} {line ended at : ℕ} (field : ℕ) (last : Bool) → last ≡ true → After s line field ended last at
    → Reached s at (suc line) 0 (suc ended) 0 × (starts_line (past s at) ≡ true)
unfolding After
after_last field last e a = rw e at a

-- j fields are taken
pub record Along
    {A : Type 0} (of : ℕ → A) (s : List ℕ) (m line first ended : ℕ) (p : Place) (row : List A) (j : ℕ) : Type 0 where
  pub same : p.text ≡ s
  pub going : j < m → Reached s p.at line (first + j) (ended + j) 0 × Open s p.at line
  pub gone : j ≡ m → Reached s p.at (suc line) 0 (ended + m) 0 × (starts_line (past s p.at) ≡ true)
  pub row_is : (k : ℕ) → k < j → get_or row k (of 0) ≡ of (value s (ended + k))

module _
    {A : Type 0} (of : ℕ → A) {entry : Place} {m line first ended largest : ℕ} {may : Bool}
    (due : RowDue entry m line first ended largest may) where
  pub row_start : (row : List A) → Along of entry.text m line first ended entry row 0
  row_start row = record {
    same = refl;
    going = λ _.
        let z : first + 0 ≡ first = omega arith in
        let y : ended + 0 ≡ ended = omega arith in
        rw (z, y) (due.reached, due.unended);
    gone = λ g. absurd (omega (arith, due.some));
    row_is = below_none (λ k. get_or row k (of 0) ≡ of (value entry.text (ended + k)));
  }

  module _
      {p : Place} {row : List A} {j : ℕ} (a : Along of entry.text m line first ended p row j) (h : j < m) where
    field_due : Due p line (first + j) (ended + j) largest may (eqb (j + 1) m)
    field_due = record {
      reached = rw a.same (a.going h).0;
      after_first = due.after_first;
      before = due.before;
      largest_is = due.largest_is j;
      empty_is = due.empty_is j;
      in_line = rw a.same (omega (arith, due.fields_are));
      last_is = rw a.same (last_is first j m ∙ ap (λ x. first + j + 1 =? x) (sym due.fields_are));
      unended = rw a.same (a.going h).1;
    }

    pub row_fault :
        (exit : Place) (r : Refusal) → TakeRead of largest may (eqb (j + 1) m) p exit (Err r) → FaultIs entry.text r
    unfolding TookAs
    row_fault exit r f = rw a.same at (f _ _ _ field_due)

    pub row_turn :
        (exit : Place) (x : A) → TakeRead of largest may (eqb (j + 1) m) p exit (Ok x) → j < length row
        → Along of entry.text m line first ended exit (set row j x) (j + 1)
    unfolding TookAs
    row_turn exit x f l =
        let t : (x ≡ of (value entry.text (ended + j)))
        × Taken entry.text line (first + j) (ended + j) (eqb (j + 1) m) exit =
        rw a.same at (f _ _ _ field_due) in
        record {
          same = t.1.same;
          going = λ g. let w = after_more _ (ne_eqb (j + 1) m (λ (z : j + 1 ≡ m). omega arith)) t.1.after in
              let y : first + (j + 1) ≡ suc (first + j) = omega arith in
              let z : ended + (j + 1) ≡ suc (ended + j) = omega arith in
              (rw (y, z) w.0, inr (and_no _ _ w.1));
          gone = λ g. let w = after_last (first + j) _ (eq-eqb (j + 1) m g) t.1.after in
              let z : ended + m ≡ suc (ended + j) = omega arith in
              (rw z w.0, w.1);
          row_is = below_more (λ k. get_or (set row j x) k (of 0) ≡ of (value entry.text (ended + k))) j
              (λ k b. get_or-set_other row j k x (of 0) (omega arith) ∙ a.row_is k b)
              (get_or-set_same row j x (of 0) l ∙ t.0);
        }

  pub row_end :
      {p : Place} {row : List A} {j : ℕ} → Along of entry.text m line first ended p row j → j ≡ m
      → RowEnd of entry.text m (suc line) ended p row
  row_end a e =
      let w = a.gone e in
      record { starts = record { reached = w.0; starts = w.1; same = a.same }; row_is = rw e at a.row_is }
