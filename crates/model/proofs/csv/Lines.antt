-- A text of good lines is accepted, and its values are the numbers of its fields.
use Prim.Native.Nat.{ℕ, suc, ◌+◌, ◌≤◌, ◌<◌}
use mathlib.Core.Bool.{true, false, not}
use mathlib.Core.List.{List, [], ◌∷◌, ◌++◌, map, append_assoc, append-nil, flatten}
use mathlib.Core.Logic.{⊎_elim}
use mathlib.Core.Path.{◌≡◌, refl, sym, ap, subst, ◌∙◌}
use native.Mathlib.Omega.{arith}
use lib.ListN.{length, get_or}
use Rattle.model.specs.Limits.{max_stations}
use Rattle.model.specs.Counting.{◌<?◌, ◌=?◌, ◌and◌, only}
use Rattle.model.specs.Verdicts.{accepted, first_fault}
use Rattle.model.specs.csv.Places.{comma, cr, lf, line_of, field_of, digits_of, after_cr, starts_line}
use Rattle.model.specs.csv.Faults.{first_fields, stations, fields_of, end_faults, faults_from, csv_faults}
use Rattle.model.specs.csv.Content.{guests, values_from, values}
use Rattle.model.specs.csv.Text.{more_fields, line, lines, number_in}
use Rattle.model.proofs.Tests.{decide, both, not_lt, is_lt, not_eq, and_no, and_false, only_yes}
use Rattle.model.proofs.Verdicts.{fault_free, fault_none}
use Rattle.model.proofs.csv.Numerals.{Digits}
use Rattle.model.proofs.csv.Steps.{digit_tests, large_none}
use Rattle.model.proofs.csv.Going.{Goes, goes_nowhere, goes_then, later, Place, Enough, GoodFields, first_good}
use Rattle.model.proofs.csv.Going.{next_good, Begins, line_goes}

enough_asks : (m n : ℕ) → n ≤ max_stations → Enough m 0 n
unfolding fields_of only ◌<?◌
enough_asks m n most = record {
  enough = not_lt n 0 (omega arith);
  not_last = λ k h. not_eq (k + 1) 0 (λ e. omega arith);
  few = λ k h. rw (not_eq (k + 1) 40 (λ e. omega arith)) (and_false _);
}

enough_later : (m l n : ℕ) → 0 < l → n ≡ fields_of m l → Enough m l n
enough_later m l n later e = record {
  enough = not_lt n (fields_of m l) (omega arith);
  not_last = λ k h. not_eq (k + 1) (fields_of m l) (λ z. omega arith);
  few = λ k h. and_no _ _ (not_eq l 0 (λ z. omega arith));
}

-- lines after the first, from line l on
pub record GoodLines (m l : ℕ) (ls : List (List (List ℕ))) : Type 0 where
  pub fields : (i : ℕ) → i < length ls → GoodFields (l + i) 0 (get_or ls i [])
  pub enough : (i : ℕ) → i < length ls → length (get_or ls i []) ≡ fields_of m (l + i)

next_lines :
    {m l : ℕ} {f : List (List ℕ)} {ls : List (List (List ℕ))} → GoodLines m l (f ∷ ls) → GoodLines m (suc l) ls
next_lines {m} {l} {f} {ls} g = record {
  fields = λ i h. subst (λ q. GoodFields q 0 (get_or ls i [])) (shift i) (g.fields (suc i) (omega arith));
  enough = λ i h. g.enough (suc i) (omega arith) ∙ ap (fields_of m) (shift i);
}
  where
    shift : (i : ℕ) → l + suc i ≡ suc l + i
    shift i = omega arith

pub some_fields : (m l : ℕ) → 0 < m → 0 < l → 0 < fields_of m l
unfolding fields_of
some_fields m l some later = omega (arith, only_yes (0 <? l) m (is_lt 0 l later))

lines_go :
    {m : ℕ} (l : ℕ) (w : List ℕ) (ls : List (List (List ℕ))) → 0 < m → 0 < l → l + length ls ≤ 202 → Begins w l
    → GoodLines m l ls
    → (w' : List ℕ) × Begins w' (l + length ls) × Goes m w (lines ls) (flatten (map (map number_in) ls)) w'
unfolding lines flatten
lines_go l w [] some later low b g =
    (w, subst (λ q. Begins w q) (let e : l ≡ l + 0 = omega arith in e) b, goes_nowhere w)
lines_go {m} l w (f ∷ ls) some later low b g =
    let z : l + 0 ≡ l = omega arith in
    let long : length f ≡ fields_of m l = rw z at (g.enough 0 (omega arith)) in
    let fields = subst (λ q. GoodFields q 0 f) z (g.fields 0 (omega arith)) in
    let (u, bu, gu) = line_goes w f (enough_later m l _ later long) (omega (arith, long, some_fields m l some later))
    (omega arith) b.place fields in
    let (v, bv, gv) = lines_go (suc l) u ls some (omega arith) (omega arith) bu (next_lines g) in
    let e : suc l + length ls ≡ l + suc (length ls) = omega arith in
    (v, subst (λ q. Begins v q) e bv, goes_then (line f) (lines ls) (map number_in f) _ gu gv)

-- ---- the first line's fields

pub stations_some : (text : List ℕ) → 0 < stations text
unfolding stations first_fields
stations_some [] = omega arith
stations_some (b ∷ text) = ⊎_elim
    (λ (t : b =? cr ≡ true). rw t (omega arith))
    (λ (t : b =? cr ≡ false). rw t (omega (arith, stations_some text)))
    (decide (b =? cr))

stations_run : (x z : List ℕ) → Digits x → stations (x ++ z) ≡ stations z
unfolding stations first_fields only
stations_run [] z d = refl
stations_run (b ∷ x) z d =
    let t = digit_tests b (d 0 (omega arith)) in
    rw (t.0, t.1) (omega (arith, stations_run x z (later b x d)))

stations_fields :
    (k : ℕ) (x : List ℕ) (xs : List (List ℕ)) (rest : List ℕ) → GoodFields 0 k (x ∷ xs)
    → stations (x ++ more_fields xs ++ rest) ≡ suc (length xs)
unfolding more_fields stations first_fields only ◌=?◌
stations_fields k x [] rest g =
    ap stations (append_assoc x (cr ∷ lf ∷ []) rest) ∙ stations_run x _ (first_good g).digits_only
stations_fields k x (y ∷ ys) rest g =
    ap stations (append_assoc x (comma ∷ (y ++ more_fields ys)) rest) ∙ stations_run x _ (first_good g).digits_only
    ∙ (let i = stations_fields (suc k) y ys rest (next_good g) in omega (arith, i))

pub stations_line :
    (f : List (List ℕ)) (rest : List ℕ) → 0 < length f → GoodFields 0 0 f → stations (line f ++ rest) ≡ length f
unfolding line
stations_line [] rest some g = absurd (omega arith)
stations_line (x ∷ xs) rest some g = stations_fields 0 x xs rest g

-- ---- a whole text

pub start : Place [] 0 0
unfolding line_of field_of digits_of after_cr
start = record { line_is = refl; field_is = refl; no_digits = refl; no_cr = refl }

end_free : (w : List ℕ) (l : ℕ) → Begins w l → 1 < l → first_fault (end_faults w) ≡ accepted tt
unfolding end_faults
end_free w l b h =
    let e : (starts_line w and 1 <? line_of w) ≡ true = both b.starts (is_lt _ _ (omega (arith, b.place.line_is))) in
    fault_free 23 _ (large_none w b.place.no_digits) (fault_free 22 _ (ap not e) fault_none)

-- what the lines of a text come to
pub record Comes (a : List (List ℕ)) (ls : List (List (List ℕ))) : Type 0 where
  pub stations_are : stations (lines (a ∷ ls)) ≡ length a
  pub accepted_is : first_fault (csv_faults (lines (a ∷ ls))) ≡ accepted tt
  pub values_are : values (lines (a ∷ ls)) ≡ flatten (map (map number_in) (a ∷ ls))
  pub guests_are : guests (lines (a ∷ ls)) + 1 ≡ length ls

pub lines_come :
    (a : List (List ℕ)) (ls : List (List (List ℕ))) → 0 < length a → length a ≤ max_stations → 0 < length ls
    → 1 + length ls ≤ 202 → GoodFields 0 0 a → GoodLines (length a) 1 ls → Comes a ls
unfolding csv_faults values guests faults_from values_from lines line_of flatten
lines_come a ls some most least low ga gs =
    let m = length a in
    let text = line a ++ lines ls in
    let (u, bu, gu) = line_goes {m = m} [] a (enough_asks m m most) some (omega arith) start ga in
    let (v, bv, gv) = lines_go {m = m} 1 u ls some (omega arith) low bu gs in
    let g = goes_then (line a) (lines ls) (map number_in a) _ gu gv in
    let s = stations_line a (lines ls) some ga in
    let nil = sym (append-nil text) in
    record {
      stations_are = s;
      accepted_is = ap (λ q. first_fault (faults_from q [] text)) s
          ∙ ap (λ r. first_fault (faults_from m [] r)) nil ∙ g.verdict [] ∙ end_free v _ bv (omega arith);
      values_are = ap (λ r. values_from [] r) nil ∙ g.gives [] ∙ append-nil _;
      guests_are = omega (arith, g.more_lines, bv.place.line_is);
    }
