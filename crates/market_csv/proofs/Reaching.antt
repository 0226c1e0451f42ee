-- The next place that is reached: after a digit, after a run of digits, after a comma and after a line end.
use Rattle.std.proofs.Common.{◌≡◌, ℕ, zero, suc, ◌+◌, ◌<◌, ◌≤◌, true, false, List, ◌∷◌, length, get_or, drop, refl, ap}
use Rattle.std.proofs.Common.{◌∙◌, ⊎_elim, arith, drop-cons}
use Rattle.model.specs.Limits.{max_stations}
use Rattle.model.specs.Counting.{◌<?◌, ◌≤?◌, ◌=?◌, ◌and◌, ◌or◌, only}
use Rattle.model.specs.Verdicts.{accepted, first_fault}
use Rattle.model.specs.csv.Places.{comma, cr, lf, is_digit, line_of, field_of, digits_of, value_of, after_cr}
use Rattle.model.specs.csv.Places.{starts_line}
use Rattle.model.specs.csv.Faults.{stations, first_fields, fields_of, too_large, is_missing, byte_faults, csv_faults}
use Rattle.model.specs.csv.Faults.{faults_from}
use Rattle.model.specs.csv.Content.{values_from, values, value}
use Rattle.model.proofs.Tests.{decide, neither}
use Rattle.model.proofs.csv.Steps.{digit_tests, digit_free, comma_free, cr_free, lf_free, line_other, line_lf}
use Rattle.model.proofs.csv.Steps.{field_other, field_comma, field_lf, digits_more, digits_none, room, large_none}
use Rattle.market_csv.specs.Reached.{past, Reached}
use Rattle.market_csv.proofs.Steps.{pass, keep_values, take_value, drop_head}

-- the first line's fields from a place on
pub fields_other :
    (s : List ℕ) (p : ℕ) → p < length s → get_or s p 0 =? cr ≡ false → get_or s p 0 =? comma ≡ false
    → stations (drop p s) ≡ stations (drop (suc p) s)
unfolding stations first_fields only
fields_other s p h e f = rw (drop-cons s p 0 h, e, f) (omega arith)

pub fields_comma :
    (s : List ℕ) (p : ℕ) → p < length s → get_or s p 0 ≡ comma → stations (drop p s) ≡ suc (stations (drop (suc p) s))
unfolding stations first_fields only ◌=?◌
fields_comma s p h e = rw (drop-cons s p 0 h, e) (omega arith)

pub fields_cr : (s : List ℕ) (p : ℕ) → p < length s → get_or s p 0 ≡ cr → stations (drop p s) ≡ 1
unfolding stations first_fields only ◌=?◌
fields_cr s p h e = rw (drop-cons s p 0 h, e) refl

-- ---- the start

pub start : (s : List ℕ) → Reached s 0 0 0 0 0
unfolding past line_of field_of digits_of after_cr csv_faults values
start s = record {
  within = omega arith;
  line_is = refl;
  field_is = refl;
  digits_are = refl;
  no_cr = refl;
  verdict = refl;
  left = refl;
  first = λ _. omega arith;
}

-- ---- a digit, and a run of them

pub digit_step :
    {s : List ℕ} {p l k q d : ℕ} → Reached s p l k q d → p < length s → is_digit (get_or s p 0) ≡ true → l < 202
    → Reached s (suc p) l k q (suc d)
unfolding past after_cr ◌or◌
digit_step {s} {p} {l} {k} {q} {d} r h e low =
    let t = digit_tests _ e in
    let n : line_of (past s p) < 202 = omega (arith, r.line_is) in
    record {
      within = omega arith;
      line_is = line_other _ _ t.2 ∙ r.line_is;
      field_is = field_other _ _ t.2 t.0 ∙ r.field_is;
      digits_are = digits_more _ _ e ∙ ap suc r.digits_are;
      no_cr = t.1;
      verdict = r.verdict ∙ pass s _ p h (digit_free _ _ _ e r.no_cr (room _ n));
      left = r.left ∙ keep_values s p h (neither t.0 t.1);
      first = λ z. r.first z ∙ ap (λ x. k + x) (fields_other s p h t.1 t.0);
    }

last_digit : (b : ℕ) (w : List ℕ) (n : ℕ) → digits_of (b ∷ w) ≡ suc n → (is_digit b ≡ true) × (digits_of w ≡ n)
unfolding digits_of only
last_digit b w n e = ⊎_elim
    (λ (t : is_digit b ≡ true). (t, omega (arith, rw t at e)))
    (λ (t : is_digit b ≡ false). absurd (omega (arith, rw t at e)))
    (decide (is_digit b))

-- where as many digits stand before a place as bytes after `from`, all of these are digits
pub run :
    {s : List ℕ} {from l k q : ℕ} (n : ℕ) → Reached s from l k q 0 → l < 202 → from + n ≤ length s
    → digits_of (past s (from + n)) ≡ n → Reached s (from + n) l k q n
unfolding past
run {from = from} zero r low h e = let z : from + 0 ≡ from = omega arith in rw z r
run {s} {from} (suc n) r low h e =
    let z : from + suc n ≡ suc (from + n) = omega arith in
    let f : digits_of (past s (suc (from + n))) ≡ suc n = rw z at e in
    let g = last_digit _ _ _ f in
    rw z (digit_step (run n r low (omega arith) g.1) (omega arith) g.0 low)

-- ---- a comma

-- what a field leaves: its value among all, and the rest of them
pub field_ends :
    {s : List ℕ} {p l k q d : ℕ} → Reached s p l k q d → p < length s
    → (get_or s p 0 =? comma or get_or s p 0 =? cr) ≡ true
    → (value s q ≡ value_of (past s p)) × (drop (suc q) (values s) ≡ values_from (past s (suc p)) (drop (suc p) s))
unfolding value
field_ends {s} {p} {q = q} r h e = drop_head q _ _ _ (r.left ∙ take_value s p h e)

-- a comma may end a field there
pub record MayGoOn (s : List ℕ) (p l k : ℕ) : Type 0 where
  pub small : too_large (past s p) ≡ false
  pub few : (l =? 0 and k + 1 =? max_stations) ≡ false
  pub before : l < 202
  pub there : is_missing (past s p) ≡ false
  pub not_last : k + 1 =? fields_of (stations s) l ≡ false

pub comma_step :
    {s : List ℕ} {p l k q d : ℕ} → Reached s p l k q d → p < length s → get_or s p 0 ≡ comma → MayGoOn s p l k
    → Reached s (suc p) l (suc k) (suc q) 0
unfolding past after_cr ◌or◌ is_digit ◌≤?◌ ◌and◌ ◌=?◌
comma_step {s} {p} {l} {k} {q} {d} r h b g =
    let n : line_of (past s p) < 202 = omega (arith, r.line_is, g.before) in
    let few : (line_of (past s p) =? 0 and field_of (past s p) + 1 =? max_stations) ≡ false =
    rw (r.line_is, r.field_is) g.few in
    let last : field_of (past s p) + 1 =? fields_of (stations s) (line_of (past s p)) ≡ false =
    rw (r.line_is, r.field_is) g.not_last in
    let free : first_fault (byte_faults (stations s) (past s p) (get_or s p 0)) ≡ accepted tt =
    rw b (comma_free _ _ g.small r.no_cr few (room _ n) g.there last) in
    record {
      within = omega arith;
      line_is = rw b (line_other comma (past s p) refl ∙ r.line_is);
      field_is = rw b (field_comma (past s p) ∙ ap suc r.field_is);
      digits_are = rw b (digits_none comma (past s p) refl);
      no_cr = rw b refl;
      verdict = r.verdict ∙ pass s _ p h free;
      left = (field_ends r h (rw b refl)).1;
      first = λ z. omega (arith, r.first z, fields_comma s p h b);
    }

-- ---- a line end

pub record MayEnd (s : List ℕ) (p l k : ℕ) : Type 0 where
  pub small : too_large (past s p) ≡ false
  pub before : l < 202
  pub there : is_missing (past s p) ≡ false
  pub enough : k + 1 <? fields_of (stations s) l ≡ false

pub cr_verdict :
    {s : List ℕ} {p l k q d : ℕ} → Reached s p l k q d → p < length s → get_or s p 0 ≡ cr → MayEnd s p l k
    → first_fault (csv_faults s) ≡ first_fault (faults_from (stations s) (past s (suc p)) (drop (suc p) s))
cr_verdict {s} {p} {l} {k} r h b g =
    let n : line_of (past s p) < 202 = omega (arith, r.line_is, g.before) in
    let enough : field_of (past s p) + 1 <? fields_of (stations s) (line_of (past s p)) ≡ false =
    rw (r.line_is, r.field_is) g.enough in
    let free : first_fault (byte_faults (stations s) (past s p) (get_or s p 0)) ≡ accepted tt =
    rw b (cr_free _ _ g.small r.no_cr (room _ n) g.there enough) in
    r.verdict ∙ pass s _ p h free

pub line_step :
    {s : List ℕ} {p l k q d : ℕ} → Reached s p l k q d → suc p < length s → get_or s p 0 ≡ cr → get_or s (suc p) 0 ≡ lf
    → MayEnd s p l k → Reached s (suc (suc p)) (suc l) 0 (suc q) 0
unfolding past after_cr starts_line ◌or◌ is_digit ◌≤?◌ ◌and◌ ◌=?◌
line_step {s} {p} {l} {k} {q} {d} r h b c g =
    let hp : p < length s = omega arith in
    let small : too_large (past s (suc p)) ≡ false = large_none _ (rw b (digits_none cr (past s p) refl)) in
    let free : first_fault (byte_faults (stations s) (past s (suc p)) (get_or s (suc p) 0)) ≡ accepted tt =
    rw c (lf_free _ _ small (rw b refl) (rw b refl)) in
    record {
      within = omega arith;
      line_is = rw (c, b) (line_lf _ ∙ ap suc (line_other cr (past s p) refl ∙ r.line_is));
      field_is = rw c (field_lf _);
      digits_are = rw c (digits_none lf _ refl);
      no_cr = rw c refl;
      verdict = cr_verdict r hp b g ∙ pass s _ (suc p) h free;
      left = (field_ends r hp (rw b refl)).1 ∙ keep_values s (suc p) h (rw c refl);
      first = λ z. absurd (omega arith);
    }

pub line_starts : (s : List ℕ) (p : ℕ) → get_or s p 0 ≡ lf → starts_line (past s (suc p)) ≡ true
unfolding past starts_line ◌=?◌
line_starts s p c = rw c refl

-- m, where the first line ends
pub line_stations :
    {s : List ℕ} {p l k q d : ℕ} → Reached s p l k q d → p < length s → get_or s p 0 ≡ cr → l ≡ 0 → stations s ≡ k + 1
line_stations {s} {p} r h b z = omega (arith, r.first z, fields_cr s p h b)
