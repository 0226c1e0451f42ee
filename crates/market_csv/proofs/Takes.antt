-- Taking a field of a line whose count of fields is known.
use Rattle.std.proofs.Common.{◌≡◌, ℕ, suc, ◌+◌, ◌<◌, Bool, true, false, not, ◌&&◌, ◌||◌, List, get_or, sym, refl}
use Rattle.std.proofs.Common.{◌∙◌, ap, inl, inr, ⊎_elim, arith, Ok, Err}
use mathlib.Core.Bool.{beq}
use Rattle.model.specs.Limits.{max_stations}
use Rattle.model.specs.Counting.{◌<?◌, ◌=?◌, ◌and◌, ◌or◌}
use Rattle.model.specs.Verdicts.{refused, first_fault}
use Rattle.model.specs.declared.refusal.Refusal.{Refusal}
use Rattle.model.specs.declared.refusal.Refusal.TheVariants.{MalformedText}
use Rattle.model.specs.csv.Places.{comma, starts_line}
use Rattle.model.specs.csv.Faults.{is_bid, is_missing, csv_faults}
use Rattle.model.specs.csv.Content.{value}
use Rattle.model.proofs.Tests.{decide, clash, and_no, not_eq, not_lt, lt_no, eq_no, eq_yes}
use Rattle.market_csv.specs.Reached.{Place, past}
use Rattle.market_csv.specs.Ends.{AtEnd, FieldEnds, ReadAs, FieldRead, Due, After, TookAs, TakeRead}
use Rattle.market_csv.specs.declared.reader.Field.{Field}
use Rattle.market_csv.proofs.Reaching.{MayGoOn, MayEnd, comma_step, line_step, field_ends, line_starts}
use Rattle.market_csv.proofs.Faulty.{comma_fault, cr_fault}

pub comma_starts : (s : List ℕ) (p : ℕ) → get_or s p 0 ≡ comma → starts_line (past s (suc p)) ≡ false
unfolding past starts_line ◌=?◌
comma_starts s p c = rw c refl

-- the code's test for an empty field that is no bid
pub and_is : (a b : Bool) → (a && b) ≡ (a and b)
unfolding ◌and◌
and_is true b = refl
and_is false b = refl

pub missing_is :
    {s : List ℕ} {l k q v : ℕ} {e : Bool} {end : ℕ} (may : Bool) → FieldEnds s l k q v e end → may ≡ is_bid l k
    → is_missing (past s end) ≡ (e && not may)
unfolding is_missing
missing_is {e = e} may f h =
    rw (f.reached.line_is, f.reached.field_is, ← f.empty_is, ← h) (sym (and_is e (not may)))

later : (l k : ℕ) → 0 < l → (l =? 0 and k + 1 =? max_stations) ≡ false
later l k h = and_no _ _ (not_eq l 0 (λ (z : l ≡ 0). omega arith))

enough : (k n : ℕ) → k + 1 =? n ≡ true → k + 1 <? n ≡ false
enough k n e = let z = eq_yes (k + 1) n e in not_lt (k + 1) n (omega arith)

early : (k n : ℕ) → k < n → k + 1 =? n ≡ false → k + 1 <? n ≡ true
early k n h e = ⊎_elim
    (λ (z : k + 1 <? n ≡ true). z)
    (λ (z : k + 1 <? n ≡ false). absurd (eq_no (k + 1) n e (omega (arith, lt_no (k + 1) n z))))
    (decide (k + 1 <? n))

module _ {entry : Place} {largest l k q v : ℕ} {may last e : Bool} (d : Due entry l k q largest may last) (end at : ℕ)
    (i : FieldEnds entry.text l k q v e end) where
  -- a field that ends as it may not, or is empty
  bad :
      (b : Bool) → AtEnd entry.text end b at → (not (beq b last) || (e && not may)) ≡ true
      → first_fault (csv_faults entry.text) ≡ refused 22
  unfolding AtEnd
  bad false a t =
      comma_fault i.reached a.there a.byte i.small (later l k d.after_first) d.before
      (⊎_elim (λ (z : last ≡ true). inr (sym d.last_is ∙ z))
      (λ (z : last ≡ false). inl (missing_is may i d.empty_is ∙ rw z at t)) (decide last))
  bad true a t =
      cr_fault i.reached (omega (arith, a.there)) a.byte i.small d.before
      (⊎_elim (λ (z : last ≡ true). inl (missing_is may i d.empty_is ∙ rw z at t))
      (λ (z : last ≡ false). inr (early _ _ d.in_line (sym d.last_is ∙ z))) (decide last))

  -- a field that ends as it has to
  good :
      (b : Bool) → AtEnd entry.text end b at → (not (beq b last) || (e && not may)) ≡ false
      → (v ≡ value entry.text q) × After entry.text l k q last at
  unfolding AtEnd After ◌or◌ ◌=?◌
  good false a t = ⊎_elim
      (λ (z : last ≡ true). absurd (clash refl (rw z at t)))
      (λ (z : last ≡ false).
      let go : MayGoOn entry.text end l k = record {
        small = i.small;
        few = later l k d.after_first;
        before = d.before;
        there = missing_is may i d.empty_is ∙ rw z at t;
        not_last = sym d.last_is ∙ z;
      } in
      let w = field_ends i.reached a.there (rw a.byte refl) in (
        i.value_is ∙ sym w.0,
        rw (z, a.next) (comma_step i.reached a.there a.byte go, comma_starts entry.text end a.byte),
      ))
      (decide last)
  good true a t = ⊎_elim
      (λ (z : last ≡ true).
      let go : MayEnd entry.text end l k = record {
        small = i.small;
        before = d.before;
        there = missing_is may i d.empty_is ∙ rw z at t;
        enough = enough _ _ (sym d.last_is ∙ z);
      } in
      let w = field_ends i.reached (omega (arith, a.there)) (rw a.byte refl) in (
        i.value_is ∙ sym w.0,
        rw (z, a.next) (line_step i.reached a.there a.byte a.feed go, line_starts entry.text (suc end) a.feed),
      ))
      (λ (z : last ≡ false). absurd (clash refl (rw z at t)))
      (decide last)

module _ {A : Type 0} (of : ℕ → A) (entry exit : Place) {largest : ℕ} {may last : Bool} where
  pub take_bad :
      (x : Field) → FieldRead entry largest exit (Ok x) → (not (beq x.last last) || (x.empty && not may)) ≡ true
      → TakeRead of largest may last entry exit (Err MalformedText)
  unfolding ReadAs TookAs
  take_bad x f t l k q d =
      let r = f l k q d.reached d.before d.largest_is d.unended in bad d r.end exit.at r.ends x.last r.ender t

  pub take_good :
      (x : Field) → FieldRead entry largest exit (Ok x) → (not (beq x.last last) || (x.empty && not may)) ≡ false
      → TakeRead of largest may last entry exit (Ok (of x.value))
  unfolding ReadAs TookAs
  take_good x f t l k q d =
      let r = f l k q d.reached d.before d.largest_is d.unended in
      let w = good d r.end exit.at r.ends x.last r.ender t in
      (ap of w.0, record { after = w.1; same = r.same })

  pub take_fault :
      (r : Refusal) → FieldRead entry largest exit (Err r) → TakeRead of largest may last entry exit (Err r)
  unfolding ReadAs TookAs
  take_fault r f l k q d = f l k q d.reached d.before d.largest_is d.unended
