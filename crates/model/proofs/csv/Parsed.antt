-- What is accepted is lines of good fields: byte by byte, from a place inside a line.
use Prim.Native.Nat.{ℕ, zero, suc, ◌+◌, ◌≤◌, ◌<◌}
use mathlib.Core.Bool.{true, false, not}
use mathlib.Core.List.{List, [], ◌∷◌, ◌++◌, reverse_aux}
use mathlib.Core.Logic.{◌⊎◌, inl, inr, ⊎_elim}
use mathlib.Core.Path.{◌≡◌, refl, sym, ap, ap₂, subst, ◌∙◌}
use native.Mathlib.Nat.{eq-or-lt_of_le}
use native.Mathlib.Omega.{arith}
use lib.ListN.{length}
use Rattle.model.specs.Limits.{max_stations}
use Rattle.model.specs.Counting.{◌<?◌, ◌≤?◌, ◌=?◌, ◌and◌, ◌or◌}
use Rattle.model.specs.Verdicts.{accepted, first_fault}
use Rattle.model.specs.csv.Places.{comma, cr, lf, is_digit, line_of, field_of, after_cr, starts_line}
use Rattle.model.specs.csv.Faults.{stations, fields_of, too_large, too_many, is_missing, faults_from, csv_faults}
use Rattle.model.specs.csv.Text.{more_fields, line, lines}
use Rattle.model.proofs.Tests.{decide, clash, both, second, or_no, and_no, lt_no, lt_yes, is_eq, eq_yes, eq_no}
use Rattle.model.proofs.csv.Good.{field_good, good_cons, no_fields, lines_cons, no_lines}
use Rattle.model.proofs.csv.Numerals.{Digits}
use Rattle.model.proofs.csv.Places.{passed, in_place, end_passed}
use Rattle.model.proofs.csv.Steps.{digit_tests, line_other, field_other, field_comma, digits_none}
use Rattle.model.proofs.csv.Going.{Place, line_place, GoodFields}
use Rattle.model.proofs.csv.Lines.{GoodLines, some_fields, stations_some, start}

-- a place inside field k of line l, before the text's end
record Open (m l k : ℕ) (w rest : List ℕ) : Type 0 where
  accepted_is : first_fault (faults_from m w rest) ≡ accepted tt
  line_is : line_of w ≡ l
  field_is : field_of w ≡ k
  no_cr : after_cr w ≡ false
  within : 0 < l → k < fields_of m l
  asks_low : l ≡ 0 → k < max_stations
  low : l < 202
  live : (0 < length rest) ⊎ ((starts_line w and 1 <? line_of w) ≡ false)

-- the rest is what remains of this field, the line's fields after it, and lines
pub record Parsed (m l k : ℕ) (w rest : List ℕ) : Type 0 where
  pub x : List ℕ
  pub xs : List (List ℕ)
  pub ls : List (List (List ℕ))
  pub is : rest ≡ x ++ more_fields xs ++ lines ls
  pub digits : Digits x
  pub small : too_large (reverse_aux x w) ≡ false
  pub there : is_missing (reverse_aux x w) ≡ false
  pub fields : GoodFields l (suc k) xs
  pub enough : 0 < l → suc k + length xs ≡ fields_of m l
  pub few : l ≡ 0 → suc k + length xs ≤ max_stations
  pub more : GoodLines m (suc l) ls
  pub least : 1 ≤ l + length ls
  pub most_lines : l + length ls < 202

no_end : {m l k : ℕ} {w : List ℕ} → Open m l k w [] → ⊥
no_end {m} {l} {k} {w} o = ⊎_elim
    (λ (h : 0 < 0). omega arith)
    (λ (e : (starts_line w and 1 <? line_of w) ≡ false). clash (end_passed m w o.accepted_is) e)
    o.live

below : (k a : ℕ) → k < a → (k + 1 =? a) ≡ false → suc k < a
below k a h e = ⊎_elim
    (λ (z : suc k ≡ a). absurd (eq_no _ _ e (omega arith))) (λ (z : suc k < a). z) (eq-or-lt_of_le h)

-- a comma that may stand in the first line is not after the 40th ask
more_asks :
    (w : List ℕ) (k : ℕ) → too_many w comma ≡ false → after_cr w ≡ false → line_of w ≡ 0 → field_of w ≡ k
    → k < max_stations
    → suc k < max_stations
unfolding too_many
more_asks w k e c l f h = ⊎_elim
    (λ (z : suc k ≡ max_stations).
    let last : field_of w + 1 ≡ max_stations = omega arith in
    absurd (clash (both (both (both (is_eq comma comma refl) (ap not c)) (is_eq _ _ l)) (is_eq _ _ last))
    (or_no _ _ e).0))
    (λ (z : suc k < max_stations). z)
    (eq-or-lt_of_le h)

-- ---- a byte, where all shorter rests are parsed
module _ (m : ℕ) (some : 0 < m) (n : ℕ)
    (rec : (l k : ℕ) (w rest : List ℕ) → length rest ≤ n → Open m l k w rest → Parsed m l k w rest)
    (l k : ℕ) (w : List ℕ) where
  at_digit :
      (b : ℕ) (rest : List ℕ) → length rest ≤ n → Open m l k w (b ∷ rest) → is_digit b ≡ true
      → Parsed m l k w (b ∷ rest)
  unfolding after_cr starts_line
  at_digit b rest h o e =
      let t = digit_tests b e in
      let r = rec l k (b ∷ w) rest h (record {
        accepted_is = (passed m w b rest o.accepted_is).goes_on;
        line_is = line_other b w t.2 ∙ o.line_is;
        field_is = field_other b w t.2 t.0 ∙ o.field_is;
        no_cr = t.1;
        within = o.within;
        asks_low = o.asks_low;
        low = o.low;
        live = inr (and_no _ _ t.2);
      }) in
      record {
        x = b ∷ r.x;
        xs = r.xs;
        ls = r.ls;
        is = ap (λ q. b ∷ q) r.is;
        digits = go r.x r.digits;
        small = r.small;
        there = r.there;
        fields = r.fields;
        enough = r.enough;
        few = r.few;
        more = r.more;
        least = r.least;
        most_lines = r.most_lines;
      }
    where
      go : (x : List ℕ) → Digits x → Digits (b ∷ x)
      go x d zero h = e
      go x d (suc p) h = d p (omega arith)

  -- what ends a field leaves it good
  at_comma :
      (rest : List ℕ) → length rest ≤ n → Open m l k w (comma ∷ rest) → Parsed m l k w (comma ∷ rest)
  unfolding after_cr starts_line is_digit ◌≤?◌ ◌<?◌ ◌and◌ ◌or◌ ◌=?◌ more_fields
  at_comma rest h o =
      let p = passed m w comma rest o.accepted_is in
      let i = in_place m w comma p.in_place in
      let last : field_of w + 1 =? fields_of m (line_of w) ≡ false = i.not_many in
      let place : Place (comma ∷ w) l (suc k) = record {
        line_is = line_other comma w refl ∙ o.line_is;
        field_is = field_comma w ∙ ap suc o.field_is;
        no_digits = digits_none comma w refl;
        no_cr = refl;
      } in
      let r = rec l (suc k) (comma ∷ w) rest h (record {
        accepted_is = p.goes_on;
        line_is = place.line_is;
        field_is = place.field_is;
        no_cr = refl;
        within = λ z. below k _ (o.within z) (rw (o.line_is, o.field_is) at last);
        asks_low = λ z. more_asks w k p.not_many o.no_cr (o.line_is ∙ z) o.field_is (o.asks_low z);
        low = o.low;
        live = inr refl;
      }) in
      record {
        x = [];
        xs = r.x ∷ r.xs;
        ls = r.ls;
        is = ap (λ q. comma ∷ q) r.is;
        digits = λ p z. absurd (omega arith);
        small = p.not_large;
        there = i.not_missing;
        fields = good_cons (field_good r.x place r.digits r.small r.there) r.fields;
        enough = λ z. (let e = r.enough z in omega (arith, e));
        few = λ z. (let e = r.few z in omega (arith, e));
        more = r.more;
        least = r.least;
        most_lines = r.most_lines;
      }

  -- after CR there is LF, and then the end or another line
  feed_only : (c : ℕ) (rest : List ℕ) → first_fault (faults_from m (cr ∷ w) (c ∷ rest)) ≡ accepted tt → c ≡ lf
  unfolding after_cr ◌and◌ ◌=?◌
  feed_only c rest e = ⊎_elim
      (λ (t : c =? lf ≡ true). eq_yes c lf t)
      (λ (t : c =? lf ≡ false).
      absurd (clash (ap not t) (in_place m (cr ∷ w) c (passed m (cr ∷ w) c rest e).in_place).after_cr_lem))
      (decide (c =? lf))

  end_lines : first_fault (faults_from m (lf ∷ cr ∷ w) []) ≡ accepted tt → 1 ≤ line_of w
  end_lines e =
      let z = lt_yes _ _ (second (starts_line (lf ∷ cr ∷ w)) _ (end_passed m (lf ∷ cr ∷ w) e)) in
      omega (arith, z, (line_place w).line_is)

  -- the lines after this one
  record After (rest : List ℕ) : Type 0 where
    ls : List (List (List ℕ))
    is : rest ≡ lines ls
    good : GoodLines m (suc l) ls
    least : 1 ≤ l + length ls
    most_lines : l + length ls < 202

  -- the first byte of a line is not that of guest line 201
  more_room :
      (c : ℕ) (rest : List ℕ) → line_of w ≡ l → l < 202
      → first_fault (faults_from m (lf ∷ cr ∷ w) (c ∷ rest)) ≡ accepted tt → suc l < 202
  unfolding too_many starts_line ◌=?◌ ◌and◌
  more_room c rest at low e =
      let last : line_of (lf ∷ cr ∷ w) =? 202 ≡ false =
      (or_no _ _ (passed m (lf ∷ cr ∷ w) c rest e).not_many).1 in
      ⊎_elim
      (λ (z : suc l ≡ 202). absurd (eq_no (line_of (lf ∷ cr ∷ w)) 202 last (omega (arith, (line_place w).line_is))))
      (λ (z : suc l < 202). z)
      (eq-or-lt_of_le low)

  after_line :
      line_of w ≡ l → l < 202 → (rest : List ℕ) → length rest ≤ n
      → first_fault (faults_from m (lf ∷ cr ∷ w) rest) ≡ accepted tt → After rest
  unfolding lines line
  after_line at low [] h e = record {
    ls = [];
    is = refl;
    good = no_lines m (suc l);
    least = omega (arith, end_lines e);
    most_lines = omega arith;
  }
  after_line at low (c ∷ rest) h e =
      let place = subst (λ q. Place (lf ∷ cr ∷ w) (suc q) 0) at (line_place w) in
      let r = rec (suc l) 0 (lf ∷ cr ∷ w) (c ∷ rest) h (record {
        accepted_is = e;
        line_is = place.line_is;
        field_is = place.field_is;
        no_cr = place.no_cr;
        within = λ z. some_fields m (suc l) some z;
        asks_low = λ z. absurd (omega arith);
        low = more_room c rest at low e;
        live = inl (omega arith);
      }) in
      let first = field_good r.x place r.digits r.small r.there in
      let long : length (r.x ∷ r.xs) ≡ fields_of m (suc l) = (let q = r.enough (omega arith) in omega (arith, q)) in
      record {
        ls = (r.x ∷ r.xs) ∷ r.ls;
        is = r.is;
        good = lines_cons (good_cons first r.fields) long r.more;
        least = omega arith;
        most_lines = omega (arith, r.most_lines);
      }

  at_cr : (rest : List ℕ) → length rest ≤ n → Open m l k w (cr ∷ rest) → Parsed m l k w (cr ∷ rest)
  unfolding is_digit ◌≤?◌ ◌and◌ ◌or◌ ◌=?◌ more_fields starts_line
  at_cr [] h o = absurd (clash (end_passed m (cr ∷ w) (passed m w cr [] o.accepted_is).goes_on) refl)
  at_cr (c ∷ rest) h o =
      let p = passed m w cr (c ∷ rest) o.accepted_is in
      let i = in_place m w cr p.in_place in
      let feed = feed_only c rest p.goes_on in
      let few : k + 1 <? fields_of m l ≡ false = rw (o.line_is, o.field_is) at i.not_few in
      let next : first_fault (faults_from m (lf ∷ cr ∷ w) rest) ≡ accepted tt =
      rw feed at (passed m (cr ∷ w) c rest p.goes_on).goes_on in
      let a = after_line o.line_is o.low rest (omega arith) next in
      record {
        x = [];
        xs = [];
        ls = a.ls;
        is = ap₂ (λ q r. cr ∷ q ∷ r) feed a.is;
        digits = λ p z. absurd (omega arith);
        small = p.not_large;
        there = i.not_missing;
        fields = no_fields l (suc k);
        enough = λ z. (let y = o.within z in omega (arith, y, lt_no _ _ few));
        few = λ z. (let y = o.asks_low z in omega (arith, y));
        more = a.good;
        least = a.least;
        most_lines = a.most_lines;
      }

  at_other :
      {b : ℕ} {rest : List ℕ} → Open m l k w (b ∷ rest) → is_digit b ≡ false → b =? comma ≡ false → b =? cr ≡ false → ⊥
  unfolding ◌or◌ ◌and◌
  at_other {b} {rest} o d e f =
      let i = in_place m w b (passed m w b rest o.accepted_is).in_place in
      let feed : b =? lf ≡ true = rw (d, e, f) at i.known in
      clash (both feed (ap not o.no_cr)) i.feed

  at_byte : (b : ℕ) (rest : List ℕ) → length rest ≤ n → Open m l k w (b ∷ rest) → Parsed m l k w (b ∷ rest)
  at_byte b rest h o = ⊎_elim
      (λ (d : is_digit b ≡ true). at_digit b rest h o d)
      (λ (d : is_digit b ≡ false). ⊎_elim
      (λ (e : b =? comma ≡ true). at_one comma (eq_yes b comma e) (at_comma rest h))
      (λ (e : b =? comma ≡ false). ⊎_elim
      (λ (f : b =? cr ≡ true). at_one cr (eq_yes b cr f) (at_cr rest h))
      (λ (f : b =? cr ≡ false). absurd (at_other o d e f))
      (decide (b =? cr)))
      (decide (b =? comma)))
      (decide (is_digit b))
    where
      at_one :
          (c : ℕ) → b ≡ c → (Open m l k w (c ∷ rest) → Parsed m l k w (c ∷ rest)) → Parsed m l k w (b ∷ rest)
      at_one c e f = subst (λ q. Parsed m l k w (q ∷ rest)) (sym e) (f (subst (λ q. Open m l k w (q ∷ rest)) e o))

  at_rest : (rest : List ℕ) → length rest ≤ suc n → Open m l k w rest → Parsed m l k w rest
  at_rest [] h o = absurd (no_end o)
  at_rest (b ∷ rest) h o = at_byte b rest (omega arith) o

nothing_left : {m l k : ℕ} {w : List ℕ} (rest : List ℕ) → length rest ≤ 0 → Open m l k w rest → Parsed m l k w rest
nothing_left [] h o = absurd (no_end o)
nothing_left (b ∷ rest) h o = absurd (omega arith)

parse :
    (m : ℕ) → 0 < m → (n l k : ℕ) (w rest : List ℕ) → length rest ≤ n → Open m l k w rest → Parsed m l k w rest
parse m some zero = λ l k w rest h o. nothing_left rest h o
parse m some (suc n) = λ l k w rest h o. at_rest m some n (parse m some n) l k w rest h o

-- ---- a whole text

-- a text that is accepted: a line of good asks, and lines after it
pub record Lined (text : List ℕ) : Type 0 where
  pub asks : List (List ℕ)
  pub ls : List (List (List ℕ))
  pub is : text ≡ lines (asks ∷ ls)
  pub good_asks : GoodFields 0 0 asks
  pub some_asks : 0 < length asks
  pub few_asks : length asks ≤ max_stations
  pub good_lines : GoodLines (stations text) 1 ls
  pub least : 0 < length ls
  pub most_lines : length ls < 202

pub accepted_parsed : (text : List ℕ) → first_fault (csv_faults text) ≡ accepted tt → Lined text
unfolding csv_faults lines line line_of field_of after_cr starts_line ◌<?◌ ◌and◌
accepted_parsed text e =
    let r = parse (stations text) (stations_some text) (length text) 0 0 [] text (omega arith) (record {
      accepted_is = e;
      line_is = refl;
      field_is = refl;
      no_cr = refl;
      within = λ z. absurd (omega arith);
      asks_low = λ z. omega arith;
      low = omega arith;
      live = inr refl;
    }) in
    record {
      asks = r.x ∷ r.xs;
      ls = r.ls;
      is = r.is;
      good_asks = good_cons (field_good r.x start r.digits r.small r.there) r.fields;
      some_asks = omega arith;
      few_asks = omega (arith, r.few refl);
      good_lines = r.more;
      least = omega (arith, r.least);
      most_lines = omega (arith, r.most_lines);
    }
