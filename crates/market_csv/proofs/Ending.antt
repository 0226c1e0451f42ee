-- What ends a field, and what it comes to.
use Rattle.std.proofs.Common.{◌≡◌, ℕ, suc, ◌+◌, ◌-◌, ◌<◌, ◌≤◌, Bool, true, false, ◌||◌, eqb, ltb, List, [], ◌∷◌}
use Rattle.std.proofs.Common.{length, get_or, sym, refl, ap, ◌∙◌, inl, inr, ⊎_elim, add-one, arith}
use Rattle.std.proofs.Common.{ltb-false, lt-ltb, eq-eqb, ne_eqb, Ok, Err, Option, Some, None}
use Rattle.model.specs.Counting.{◌<?◌, ◌≤?◌, ◌=?◌, ◌and◌, ◌or◌, only}
use Rattle.model.specs.Verdicts.{refused, first_fault}
use Rattle.model.specs.declared.refusal.Refusal.{Refusal}
use Rattle.model.specs.declared.refusal.Refusal.TheVariants.{MalformedText, FieldTooLarge}
use Rattle.model.specs.csv.Places.{is_digit, digits_of, starts_line}
use Rattle.model.specs.csv.Faults.{most, too_large, csv_faults}
use Rattle.model.proofs.Tests.{decide, lt_or_le, and_no, or_no}
use Rattle.model.proofs.Loops.{or_is}
use Rattle.model.proofs.csv.Steps.{digit_tests}
use Rattle.market_csv.specs.Reached.{Place, past, Reached}
use Rattle.market_csv.specs.Bytes.{Sorted}
use Rattle.market_csv.specs.declared.bytes.Kind.{Kind}
use Rattle.market_csv.specs.declared.bytes.Kind.TheVariants.{Comma, Cr, Lf}
use Rattle.market_csv.specs.Runs.{Running, Ran, Found}
use Rattle.market_csv.specs.Ends.{Feeding, AtEnd, AtNeither, over, other, alone, EnderRead, FieldEnds, Open}
use Rattle.market_csv.specs.Ends.{ReadAs, FieldRead}
use Rattle.market_csv.proofs.Running.{run_value}
use Rattle.market_csv.proofs.Sorting.{no_feed, no_end}
use Rattle.market_csv.proofs.Reaching.{run}
use Rattle.market_csv.proofs.Faulty.{large_byte, large_end, mark_fault, end_fault, cr_alone}

-- ---- what ends a field

pub feeding_over : (s : List ℕ) (at : ℕ) → length s ≤ at → Feeding s at false
unfolding Feeding
feeding_over s at l = inl l

pub fed : (s : List ℕ) (at : ℕ) {b : Bool} → b ≡ true → Feeding s at b → at < length s
unfolding Feeding
fed s at e h = (rw e at h).0

pub feeding_here :
    (s : List ℕ) (at : ℕ) (k : Kind) → at < length s → Sorted (get_or s at 0) k → k ≡ Lf → Feeding s at true
unfolding Feeding Sorted
feeding_here s at k l h e = (l, rw e at h)

pub feeding_not :
    (s : List ℕ) (at : ℕ) (k : Kind) → at < length s → (k ≡ Lf → ⊥) → Sorted (get_or s at 0) k → Feeding s at false
unfolding Feeding
feeding_not s at k l f h = inr (l, no_feed _ k f h)

module _ (s : List ℕ) (end : ℕ) {k : Kind} {stop : Option Kind} (h : Found s end stop) (e : stop ≡ Some k) where
  pub there : (end < length s) × Sorted (get_or s end 0) k
  unfolding Found
  there = rw e at h

  pub ender_comma : k ≡ Comma → EnderRead s end (Ok (false, end + 1))
  unfolding EnderRead AtEnd Sorted
  ender_comma q = record { there = there.0; byte = rw q at there.1; next = add-one end }

  pub ender_line : k ≡ Cr → Feeding s (end + 1) true → EnderRead s end (Ok (true, end + 2))
  unfolding EnderRead AtEnd Sorted Feeding
  ender_line q f =
      let z : end + 1 ≡ suc end = omega arith in
      let g = rw z at f in
      record { there = g.0; byte = rw q at there.1; feed = g.1; next = omega arith }

  pub ender_alone : k ≡ Cr → Feeding s (end + 1) false → EnderRead s end (Err MalformedText)
  unfolding EnderRead Sorted
  ender_alone q f =
      let z : end + 1 ≡ suc end = omega arith in
      (refl, alone there.0 (rw q at there.1) (rw z at f))

  pub ender_other : (k ≡ Comma → ⊥) → (k ≡ Cr → ⊥) → EnderRead s end (Err MalformedText)
  unfolding EnderRead
  ender_other f g = let t = no_end _ k f g there.1 in (refl, other there.0 t.0 t.1)

pub ender_over :
    (s : List ℕ) (end : ℕ) {stop : Option Kind} → Found s end stop → stop ≡ None → EnderRead s end (Err MalformedText)
unfolding EnderRead Found
ender_over s end h e = (refl, over (rw e at h))

-- ---- the field

pub reached_end :
    {s : List ℕ} {from v end l k q : ℕ} → Running s from v end → Reached s from l k q 0 → l < 202
    → Reached s end l k q (end - from)
reached_end {s} {from} {v} {end} h r low =
    let z : from + (end - from) ≡ end = omega (arith, h.after) in
    let e : digits_of (past s (from + (end - from))) ≡ end - from = rw z h.digits_are in
    rw z at (run (end - from) r low (omega (arith, h.after, h.within)) e)

-- the code's test is that of the definition
pub large_is :
    {s : List ℕ} {from v end l k q : ℕ} (largest : ℕ) → Running s from v end → Reached s end l k q (end - from)
    → largest ≡ most l k → (ltb 10 (end - from) || ltb largest v) ≡ too_large (past s end)
unfolding too_large ◌or◌ ◌<?◌
large_is {s} {from} {v} {end} {l} {k} largest h r e = ⊎_elim
    (λ (g : 10 < end - from). rw (r.digits_are, lt-ltb 10 (end - from) g) refl)
    (λ (g : end - from ≤ 10).
    let u = run_value h g in
    rw (r.digits_are, r.line_is, r.field_is, ← u, ← e) (or_is (ltb 10 (end - from)) (ltb largest v)))
    (lt_or_le 10 (end - from))

-- digits before a place: no line starts there
digits_start : (w : List ℕ) → 0 < digits_of w → starts_line w ≡ false
unfolding digits_of starts_line only
digits_start [] h = absurd (omega arith)
digits_start (b ∷ w) h = ⊎_elim
    (λ (t : is_digit b ≡ true). (digit_tests b t).2)
    (λ (t : is_digit b ≡ false). absurd (omega (arith, rw t at h)))
    (decide (is_digit b))

open_end :
    {s : List ℕ} {from end l k q : ℕ} → Reached s end l k q (end - from) → from ≤ end → length s ≤ end → Open s from l
    → (starts_line (past s end) and 1 <? l) ≡ false
open_end {s} {from} {end} {l} r le h o = ⊎_elim
    (λ (g : from < end). and_no _ _ (digits_start _ (omega (arith, r.digits_are))))
    (λ (g : end ≤ from).
    let z : end ≡ from = omega arith in
    ⊎_elim
    (λ (a : from < length s). absurd (omega arith))
    (λ (a : (starts_line (past s from) and 1 <? l) ≡ false). rw z a)
    o)
    (lt_or_le from end)

pub field_large :
    {s : List ℕ} {from v end : ℕ} (largest : ℕ) (exit : Place) → Ran s from v end
    → (ltb 10 (end - from) || ltb largest v) ≡ true
    → FieldRead (record { text = s; at = from }) largest exit (Err FieldTooLarge)
unfolding ReadAs
field_large {s} {from} {v} {end} largest exit h t l k q r low e o =
    let g = reached_end h.running r low in
    let big : too_large (past s end) ≡ true = sym (large_is largest h.running g e) ∙ t in
    ⊎_elim
    (λ (a : end < length s). large_byte g a (h.no_digit a) big)
    (λ (a : length s ≤ end). large_end g a big)
    (lt_or_le end (length s))

empty_test : (from end : ℕ) → from ≤ end → eqb end from ≡ (end - from =? 0)
unfolding ◌=?◌
empty_test from end h = ⊎_elim
    (λ (g : from < end). ne_eqb end from (λ (z : end ≡ from). omega arith)
    ∙ sym (ne_eqb (end - from) 0 (λ (z : end - from ≡ 0). omega arith)))
    (λ (g : end ≤ from). eq-eqb end from (omega arith) ∙ sym (eq-eqb (end - from) 0 (omega arith)))
    (lt_or_le from end)

module _
    {s : List ℕ} {from v end : ℕ} {largest : ℕ} (h : Ran s from v end)
    (t : (ltb 10 (end - from) || ltb largest v) ≡ false) where
  module _ {l k q : ℕ} (r : Reached s from l k q 0) (low : l < 202) (e : largest ≡ most l k) (o : Open s from l) where
    small : too_large (past s end) ≡ false
    small = sym (large_is largest h.running (reached_end h.running r low) e) ∙ t

    within : (end - from ≤ 10) × (v ≤ largest)
    within =
        let either = or_is (ltb 10 (end - from)) (ltb largest v) in
        let (a, b) = or_no (ltb 10 (end - from)) (ltb largest v) (sym either ∙ t) in
        (ltb-false _ _ a, ltb-false _ _ b)

    field_is : FieldEnds s l k q v (eqb end from) end
    field_is = record {
      digits = end - from;
      reached = reached_end h.running r low;
      small = small;
      value_is = run_value h.running within.0;
      low = omega (arith, within.1);
      empty_is = empty_test from end h.running.after ∙ ap (λ x. x =? 0) (sym h.running.digits_are);
    }

    neither_is : AtNeither s end → first_fault (csv_faults s) ≡ refused 22
    unfolding Feeding
    neither_is (over a) = end_fault (reached_end h.running r low) a small
        (open_end (reached_end h.running r low) h.running.after a o)
    neither_is (other a b c) =
        mark_fault (reached_end h.running r low) a (h.no_digit a) b c small low
    neither_is (alone a b c) = cr_alone (reached_end h.running r low) a b small low c

  pub field_read :
      (last : Bool) (at : ℕ) → EnderRead s end (Ok (last, at))
      → FieldRead (record { text = s; at = from }) largest (record { text = s; at = at })
      (Ok (record { value = v; empty = eqb end from; last = last }))
  unfolding ReadAs EnderRead
  field_read last at w l k q r low g o =
      record { end = end; ends = field_is r low g o; ender = w; same = refl }

  pub field_malformed :
      (exit : Place) (f : Refusal) → EnderRead s end (Err f)
      → FieldRead (record { text = s; at = from }) largest exit (Err f)
  unfolding ReadAs EnderRead
  field_malformed exit f w l k q r low g o = rw w.0 (neither_is r low g o w.1)

-- the next field has no digit yet
pub none_yet :
    (s : List ℕ) (end : ℕ) (last : Bool) (at : ℕ) → EnderRead s end (Ok (last, at))
    → (at ≤ length s) × (digits_of (past s at) ≡ 0)
unfolding EnderRead AtEnd past digits_of is_digit ◌≤?◌ ◌and◌ only
none_yet s end false at a = (omega (arith, a.there, a.next), rw (a.next, a.byte) refl)
none_yet s end true at a = (omega (arith, a.there, a.next), rw (a.next, a.feed) refl)
