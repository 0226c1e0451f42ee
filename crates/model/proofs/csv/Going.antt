-- A text of good fields goes on without a fault, and gives the fields' numbers: field by field and line by line.
use Prim.Native.Nat.{ℕ, zero, suc, ◌+◌, ◌<◌}
use mathlib.Core.Bool.{true, false, not}
use mathlib.Core.List.{List, [], ◌∷◌, ◌++◌, map, reverse_aux, append_assoc}
use mathlib.Core.Path.{◌≡◌, refl, sym, ap, subst, ◌∙◌}
use native.Mathlib.Omega.{arith}
use lib.ListN.{length, get_or}
use Rattle.model.specs.Limits.{max_stations}
use Rattle.model.specs.Counting.{◌<?◌, ◌≤?◌, ◌=?◌, ◌and◌, ◌or◌}
use Rattle.model.specs.Verdicts.{accepted, first_fault}
use Rattle.model.specs.csv.Places.{comma, cr, lf, is_digit, line_of, field_of, digits_of, value_of, after_cr}
use Rattle.model.specs.csv.Places.{starts_line}
use Rattle.model.specs.csv.Faults.{fields_of, is_bid, too_large, is_missing, byte_faults, faults_from}
use Rattle.model.specs.csv.Content.{ending, values_from}
use Rattle.model.specs.csv.Text.{more_fields, line, number_in, GoodField}
use Rattle.model.proofs.Tests.{neither, not_lt, not_eq, and_no, and_false}
use Rattle.model.proofs.Verdicts.{fault_second}
use Rattle.model.proofs.csv.Numerals.{Digits}
use Rattle.model.proofs.csv.Steps.{digit_tests, line_other, line_lf, field_other, field_comma, field_lf}
use Rattle.model.proofs.csv.Steps.{digits_more, digits_none, value_more, value_zero, room, large_none}
use Rattle.model.proofs.csv.Steps.{digit_free, comma_free, cr_free, lf_free}

-- after w the text x has no fault, whatever follows, and gives vs; w' stands before the place after it
pub record Goes (m : ℕ) (w x vs w' : List ℕ) : Type 0 where
  pub verdict : (rest : List ℕ) → first_fault (faults_from m w (x ++ rest)) ≡ first_fault (faults_from m w' rest)
  pub gives : (rest : List ℕ) → values_from w (x ++ rest) ≡ vs ++ values_from w' rest
  pub more_lines : line_of w' ≡ line_of w + line_of x

-- ---- one byte, and one text after another

module _ {m : ℕ} {w x vs w' : List ℕ} (b : ℕ) (free : first_fault (byte_faults m w b) ≡ accepted tt) where
  goes_on : (b =? comma or b =? cr) ≡ false → Goes m (b ∷ w) x vs w' → Goes m w (b ∷ x) vs w'
  unfolding faults_from values_from ending line_of
  goes_on e g = record {
    verdict = λ rest. fault_second _ _ free ∙ g.verdict rest;
    gives = λ rest. rw e (g.gives rest);
    more_lines = omega (arith, g.more_lines);
  }

  goes_with : (b =? comma or b =? cr) ≡ true → Goes m (b ∷ w) x vs w' → Goes m w (b ∷ x) (value_of w ∷ vs) w'
  unfolding faults_from values_from ending line_of
  goes_with e g = record {
    verdict = λ rest. fault_second _ _ free ∙ g.verdict rest;
    gives = λ rest. rw e (ap (λ r. value_of w ∷ r) (g.gives rest));
    more_lines = omega (arith, g.more_lines);
  }

pub goes_nowhere : {m : ℕ} (w : List ℕ) → Goes m w [] [] w
unfolding line_of
goes_nowhere w = record { verdict = λ rest. refl; gives = λ rest. refl; more_lines = omega arith }

lines_both : (x y : List ℕ) → line_of (x ++ y) ≡ line_of x + line_of y
unfolding line_of
lines_both [] y = omega arith
lines_both (b ∷ x) y = omega (arith, lines_both x y)

pub goes_then :
    {m : ℕ} {w w' w'' : List ℕ} (x y vs us : List ℕ) → Goes m w x vs w' → Goes m w' y us w''
    → Goes m w (x ++ y) (vs ++ us) w''
goes_then {m} {w} x y vs us g h = record {
  verdict = λ rest. ap (λ r. first_fault (faults_from m w r)) (append_assoc x y rest) ∙ g.verdict (y ++ rest)
      ∙ h.verdict rest;
  gives = λ rest. ap (λ r. values_from w r) (append_assoc x y rest) ∙ g.gives (y ++ rest)
      ∙ ap (λ r. vs ++ r) (h.gives rest) ∙ sym (append_assoc vs us _);
  more_lines = omega (arith, g.more_lines, h.more_lines, lines_both x y);
}

-- ---- a run of digits

pub later : (b : ℕ) (x : List ℕ) → Digits (b ∷ x) → Digits x
later b x d p l = d (suc p) (omega arith)

run : (m : ℕ) (x w : List ℕ) → Digits x → after_cr w ≡ false → line_of w < 202 → Goes m w x [] (reverse_aux x w)
unfolding after_cr
run m [] w d c l = goes_nowhere w
run m (b ∷ x) w d c l =
    let e = d 0 (omega arith) in
    let t = digit_tests b e in
    goes_on b (digit_free m w b e c (room w l)) (neither t.0 t.1)
    (run m x (b ∷ w) (later b x d) t.1 (omega (arith, line_other b w t.2)))

-- what is counted after it
pub record Ran (w x : List ℕ) : Type 0 where
  pub line_is : line_of (reverse_aux x w) ≡ line_of w
  pub field_is : field_of (reverse_aux x w) ≡ field_of w
  pub no_cr : after_cr (reverse_aux x w) ≡ false
  pub digits_are : digits_of (reverse_aux x w) ≡ digits_of w + length x

pub ran : (x w : List ℕ) → Digits x → after_cr w ≡ false → Ran w x
unfolding after_cr
ran [] w d c = record { line_is = refl; field_is = refl; no_cr = c; digits_are = omega arith }
ran (b ∷ x) w d c =
    let e = d 0 (omega arith) in
    let t = digit_tests b e in
    let r = ran x (b ∷ w) (later b x d) t.1 in
    record {
      line_is = r.line_is ∙ line_other b w t.2;
      field_is = r.field_is ∙ field_other b w t.2 t.0;
      no_cr = r.no_cr;
      digits_are = omega (arith, r.digits_are, digits_more b w e);
    }

-- the value of a run is the field's alone, where no digit stands before it
value_same :
    (x w v : List ℕ) → Digits x → value_of w ≡ value_of v → value_of (reverse_aux x w) ≡ value_of (reverse_aux x v)
value_same [] w v d e = e
value_same (b ∷ x) w v d e =
    let t = d 0 (omega arith) in
    value_same x (b ∷ w) (b ∷ v) (later b x d) (omega (arith, value_more b w t, value_more b v t))

pub run_value : (x w : List ℕ) → Digits x → digits_of w ≡ 0 → value_of (reverse_aux x w) ≡ number_in x
unfolding number_in value_of
run_value x w d e = value_same x w [] d (value_zero w e)

-- ---- a place where a field begins, and one where it ends

pub record Place (w : List ℕ) (l k : ℕ) : Type 0 where
  pub line_is : line_of w ≡ l
  pub field_is : field_of w ≡ k
  pub no_digits : digits_of w ≡ 0
  pub no_cr : after_cr w ≡ false

record Ended (w : List ℕ) (l k x : ℕ) : Type 0 where
  line_is : line_of w ≡ l
  field_is : field_of w ≡ k
  no_cr : after_cr w ≡ false
  small : too_large w ≡ false
  there : is_missing w ≡ false
  value_is : value_of w ≡ x

there_or_bid : (d l k : ℕ) → (d ≡ 0 → is_bid l k ≡ true) → (d =? 0 and not (is_bid l k)) ≡ false
there_or_bid zero l k h = rw (h refl) (and_false _)
there_or_bid (suc d) l k h = and_no _ _ (not_eq _ _ (λ e. omega arith))

field_ended :
    {w : List ℕ} {l k : ℕ} (x : List ℕ) → Place w l k → GoodField l k x → Ended (reverse_aux x w) l k (number_in x)
unfolding too_large is_missing
field_ended {w} {l} {k} x p g =
    let r = ran x w g.digits_only p.no_cr in
    let d : digits_of (reverse_aux x w) ≡ length x = omega (arith, r.digits_are, p.no_digits) in
    let v = run_value x w g.digits_only p.no_digits in
    let line_is = r.line_is ∙ p.line_is in
    let field_is = r.field_is ∙ p.field_is in
    record {
      line_is = line_is;
      field_is = field_is;
      no_cr = r.no_cr;
      small = neither (not_lt _ _ (omega (arith, d, g.ten_most)))
          (rw (line_is, field_is, v) (not_lt _ _ g.fits));
      there = rw (line_is, field_is, d) (there_or_bid (length x) l k g.there);
      value_is = v;
    }

comma_place : {w : List ℕ} {l k x : ℕ} → Ended w l k x → Place (comma ∷ w) l (suc k)
unfolding is_digit ◌≤?◌ ◌and◌ ◌=?◌ after_cr
comma_place {w} e = record {
  line_is = line_other comma w refl ∙ e.line_is;
  field_is = field_comma w ∙ ap suc e.field_is;
  no_digits = digits_none comma w refl;
  no_cr = refl;
}

pub line_place : (w : List ℕ) → Place (lf ∷ cr ∷ w) (suc (line_of w)) 0
unfolding is_digit ◌≤?◌ ◌and◌ ◌=?◌ after_cr
line_place w = record {
  line_is = line_lf (cr ∷ w) ∙ ap suc (line_other cr w refl);
  field_is = field_lf (cr ∷ w);
  no_digits = digits_none lf (cr ∷ w) refl;
  no_cr = refl;
}

-- ---- a line

-- n fields are as many as line l must have
pub record Enough (m l n : ℕ) : Type 0 where
  pub enough : n <? fields_of m l ≡ false
  pub not_last : (k : ℕ) → k + 1 < n → (k + 1 =? fields_of m l) ≡ false
  pub few : (k : ℕ) → k + 1 < n → (l =? 0 and k + 1 =? max_stations) ≡ false

-- fields of line l from place k on
pub record GoodFields (l k : ℕ) (xs : List (List ℕ)) : Type 0 where
  pub each : (j : ℕ) → j < length xs → GoodField l (k + j) (get_or xs j [])

pub first_good : {l k : ℕ} {x : List ℕ} {xs : List (List ℕ)} → GoodFields l k (x ∷ xs) → GoodField l k x
first_good {l} {k} {x} g =
    subst (λ q. GoodField l q x) (let e : k + 0 ≡ k = omega arith in e) (g.each 0 (omega arith))

pub next_good : {l k : ℕ} {x : List ℕ} {xs : List (List ℕ)} → GoodFields l k (x ∷ xs) → GoodFields l (suc k) xs
next_good {l} {k} {x} {xs} g = record {
  each = λ j h. subst (λ q. GoodField l q (get_or xs j [])) (let e : k + suc j ≡ suc k + j = omega arith in e)
      (g.each (suc j) (omega arith));
}

line_ends :
    {m l k x : ℕ} {w : List ℕ} → Ended w l k x → l < 202 → k + 1 <? fields_of m l ≡ false
    → Goes m w (cr ∷ lf ∷ []) (x ∷ []) (lf ∷ cr ∷ w)
unfolding after_cr starts_line is_digit ◌≤?◌ ◌and◌ ◌or◌ ◌=?◌
line_ends {m} {l} {k} {x} {w} e low n =
    let enough : field_of w + 1 <? fields_of m (line_of w) ≡ false = rw (e.line_is, e.field_is) n in
    let free = cr_free m w e.small e.no_cr (room w (omega (arith, e.line_is))) e.there enough in
    let small = large_none (cr ∷ w) (digits_none cr w refl) in
    let feed = lf_free m (cr ∷ w) small refl refl in
    subst (λ v. Goes m w (cr ∷ lf ∷ []) (v ∷ []) (lf ∷ cr ∷ w)) e.value_is
    (goes_with cr free refl (goes_on lf feed refl (goes_nowhere (lf ∷ cr ∷ w))))

comma_goes :
    {m l k x : ℕ} {w z vs w' : List ℕ} → Ended w l k x → l < 202 → (l =? 0 and k + 1 =? max_stations) ≡ false
    → (k + 1 =? fields_of m l) ≡ false → Goes m (comma ∷ w) z vs w' → Goes m w (comma ∷ z) (x ∷ vs) w'
unfolding ◌or◌ ◌=?◌
comma_goes {m} {l} {k} {x} {w} {z} {vs} {w'} e low few last g =
    let few' : (line_of w =? 0 and field_of w + 1 =? max_stations) ≡ false = rw (e.line_is, e.field_is) few in
    let last' : field_of w + 1 =? fields_of m (line_of w) ≡ false = rw (e.line_is, e.field_is) last in
    let free = comma_free m w e.small e.no_cr few' (room w (omega (arith, e.line_is))) e.there last' in
    subst (λ v. Goes m w (comma ∷ z) (v ∷ vs) w') e.value_is (goes_with comma free refl g)

-- the fields from place k on, and the line end
fields_go :
    {m l n : ℕ} (k : ℕ) (w x : List ℕ) (xs : List (List ℕ)) → Enough m l n → l < 202 → k + suc (length xs) ≡ n
    → Place w l k → GoodFields l k (x ∷ xs)
    → (v : List ℕ) × (line_of v ≡ l) × Goes m w (x ++ more_fields xs) (map number_in (x ∷ xs)) (lf ∷ cr ∷ v)
unfolding more_fields
fields_go {m} {l} {n} k w x [] c low long p g =
    let good = first_good g in
    let e = field_ended x p good in
    let start = run m x w good.digits_only p.no_cr (omega (arith, p.line_is)) in
    let last : k + 1 <? fields_of m l ≡ false = subst (λ q. q <? fields_of m l ≡ false) (sym long) c.enough in
    (reverse_aux x w, e.line_is, goes_then x (cr ∷ lf ∷ []) [] (number_in x ∷ []) start (line_ends e low last))
fields_go {m} {l} {n} k w x (y ∷ ys) c low long p g =
    let good = first_good g in
    let e = field_ended x p good in
    let start = run m x w good.digits_only p.no_cr (omega (arith, p.line_is)) in
    let inner : k + 1 < n = omega arith in
    let (v, at, goes) = fields_go (suc k) _ y ys c low (omega arith) (comma_place e) (next_good g) in
    (v, at, goes_then x _ [] _ start (comma_goes e low (c.few k inner) (c.not_last k inner) goes))

-- a line begins
pub record Begins (w : List ℕ) (l : ℕ) : Type 0 where
  pub place : Place w l 0
  pub starts : starts_line w ≡ true

pub line_begins : (v : List ℕ) (l : ℕ) → line_of v ≡ l → Begins (lf ∷ cr ∷ v) (suc l)
unfolding starts_line ◌=?◌
line_begins v l e = record { place = subst (λ q. Place (lf ∷ cr ∷ v) (suc q) 0) e (line_place v); starts = refl }

pub line_goes :
    {m l : ℕ} (w : List ℕ) (f : List (List ℕ)) → Enough m l (length f) → 0 < length f → l < 202 → Place w l 0
    → GoodFields l 0 f → (w' : List ℕ) × Begins w' (suc l) × Goes m w (line f) (map number_in f) w'
unfolding line
line_goes w [] c some low p g = absurd (omega arith)
line_goes {m} {l} w (x ∷ xs) c some low p g =
    let (v, at, goes) = fields_go 0 w x xs c low (omega arith) p g in
    (lf ∷ cr ∷ v, line_begins v l at, goes)
