-- A field that has no fault is good, and so are a line of one field more and one line more.
use Prim.Native.Nat.{ℕ, zero, suc, ◌+◌, ◌<◌}
use mathlib.Core.Bool.{true, false, not}
use mathlib.Core.List.{List, [], ◌∷◌, reverse_aux}
use mathlib.Core.Logic.{⊎_elim}
use mathlib.Core.Path.{◌≡◌, ap, subst, ◌∙◌}
use native.Mathlib.Omega.{arith}
use lib.ListN.{length, get_or}
use Rattle.model.specs.Counting.{◌<?◌, ◌=?◌, ◌and◌}
use Rattle.model.specs.csv.Places.{digits_of}
use Rattle.model.specs.csv.Faults.{fields_of, is_bid, most, too_large, is_missing}
use Rattle.model.specs.csv.Text.{number_in, GoodField}
use Rattle.model.proofs.Tests.{decide, clash, both, or_no, lt_no, is_eq}
use Rattle.model.proofs.csv.Numerals.{Digits}
use Rattle.model.proofs.csv.Going.{ran, run_value, Place, GoodFields}
use Rattle.model.proofs.csv.Lines.{GoodLines}

bid_or_there : (d l k : ℕ) → (d =? 0 and not (is_bid l k)) ≡ false → d ≡ 0 → is_bid l k ≡ true
bid_or_there d l k h e = ⊎_elim
    (λ (b : is_bid l k ≡ true). b)
    (λ (b : is_bid l k ≡ false). absurd (clash (both (is_eq d 0 e) (ap not b)) h))
    (decide (is_bid l k))

pub field_good :
    {w : List ℕ} {l k : ℕ} (x : List ℕ) → Place w l k → Digits x → too_large (reverse_aux x w) ≡ false
    → is_missing (reverse_aux x w) ≡ false → GoodField l k x
unfolding too_large is_missing
field_good {w} {l} {k} x p d small there =
    let r = ran x w d p.no_cr in
    let long : digits_of (reverse_aux x w) ≡ length x = omega (arith, r.digits_are, p.no_digits) in
    let line_is = r.line_is ∙ p.line_is in
    let field_is = r.field_is ∙ p.field_is in
    let (few, low) = or_no _ _ small in
    let low' : most l k <? number_in x ≡ false = rw (line_is, field_is, run_value x w d p.no_digits) at low in
    let there' : (length x =? 0 and not (is_bid l k)) ≡ false = rw (long, line_is, field_is) at there in
    record {
      digits_only = d;
      ten_most = omega (arith, lt_no _ _ few, long);
      there = bid_or_there (length x) l k there';
      fits = lt_no _ _ low';
    }

pub good_cons :
    {l k : ℕ} {x : List ℕ} {xs : List (List ℕ)} → GoodField l k x → GoodFields l (suc k) xs → GoodFields l k (x ∷ xs)
good_cons {l} {k} {x} {xs} g gs = record { each = go }
  where
    go : (j : ℕ) → j < length (x ∷ xs) → GoodField l (k + j) (get_or (x ∷ xs) j [])
    go zero h = subst (λ q. GoodField l q x) (let e : k ≡ k + 0 = omega arith in e) g
    go (suc j) h = subst (λ q. GoodField l q (get_or xs j [])) (let e : suc k + j ≡ k + suc j = omega arith in e)
        (gs.each j (omega arith))

pub no_fields : (l k : ℕ) → GoodFields l k []
no_fields l k = record { each = λ j h. absurd (omega arith) }

pub lines_cons :
    {m l : ℕ} {f : List (List ℕ)} {ls : List (List (List ℕ))} → GoodFields l 0 f → length f ≡ fields_of m l
    → GoodLines m (suc l) ls → GoodLines m l (f ∷ ls)
lines_cons {m} {l} {f} {ls} g long gs = record { fields = go; enough = many }
  where
    go : (i : ℕ) → i < length (f ∷ ls) → GoodFields (l + i) 0 (get_or (f ∷ ls) i [])
    go zero h = subst (λ q. GoodFields q 0 f) (let e : l ≡ l + 0 = omega arith in e) g
    go (suc i) h = subst (λ q. GoodFields q 0 (get_or ls i [])) (let e : suc l + i ≡ l + suc i = omega arith in e)
        (gs.fields i (omega arith))

    many : (i : ℕ) → i < length (f ∷ ls) → length (get_or (f ∷ ls) i []) ≡ fields_of m (l + i)
    many zero h = long ∙ ap (fields_of m) (let e : l ≡ l + 0 = omega arith in e)
    many (suc i) h = gs.enough i (omega arith)
        ∙ ap (fields_of m) (let e : suc l + i ≡ l + suc i = omega arith in e)

pub no_lines : (m l : ℕ) → GoodLines m l []
no_lines m l = record { fields = λ i h. absurd (omega arith); enough = λ i h. absurd (omega arith) }
