-- What holds at a place of a text that is accepted.
use Prim.Native.Nat.{ℕ, ◌+◌}
use mathlib.Core.Bool.{Bool, true, false, not}
use mathlib.Core.List.{List, [], ◌∷◌}
use mathlib.Core.Logic.{⊎_elim}
use mathlib.Core.Path.{◌≡◌, refl, sym, ap}
use Rattle.model.specs.Counting.{◌<?◌, ◌=?◌, ◌and◌, ◌or◌}
use Rattle.model.specs.Verdicts.{accepted, first_fault}
use Rattle.model.specs.csv.Places.{comma, cr, lf, is_digit, line_of, field_of, after_cr, starts_line}
use Rattle.model.specs.csv.Faults.{fields_of, too_large, too_many, is_missing, misplaced, byte_faults, end_faults}
use Rattle.model.specs.csv.Faults.{faults_from}
use Rattle.model.proofs.Tests.{decide, clash, or_no}
use Rattle.model.proofs.Verdicts.{no_fault, no_faults}

-- at a byte
pub record Passed (m : ℕ) (w : List ℕ) (b : ℕ) (rest : List ℕ) : Type 0 where
  pub not_large : (not (is_digit b) and too_large w) ≡ false
  pub not_many : too_many w b ≡ false
  pub in_place : misplaced m w b ≡ false
  pub goes_on : first_fault (faults_from m (b ∷ w) rest) ≡ accepted tt

pub passed :
    (m : ℕ) (w : List ℕ) (b : ℕ) (rest : List ℕ) → first_fault (faults_from m w (b ∷ rest)) ≡ accepted tt
    → Passed m w b rest
unfolding faults_from byte_faults
passed m w b rest e =
    let (here, later) = no_faults (byte_faults m w b) (faults_from m (b ∷ w) rest) e in
    let (large, e1) = no_fault _ _ _ here in
    let (many, e2) = no_fault _ _ _ e1 in
    let (mis, e3) = no_fault _ _ _ e2 in
    record { not_large = large; not_many = many; in_place = mis; goes_on = later }

-- what a byte in its place is
pub record InPlace (m : ℕ) (w : List ℕ) (b : ℕ) : Type 0 where
  pub known : (is_digit b or b =? comma or b =? cr or b =? lf) ≡ true
  pub after_cr_lem : (after_cr w and not (b =? lf)) ≡ false
  pub feed : (b =? lf and not (after_cr w)) ≡ false
  pub not_missing : ((b =? comma or b =? cr) and is_missing w) ≡ false
  pub not_many : (b =? comma and field_of w + 1 =? fields_of m (line_of w)) ≡ false
  pub not_few : (b =? cr and field_of w + 1 <? fields_of m (line_of w)) ≡ false

pub in_place : (m : ℕ) (w : List ℕ) (b : ℕ) → misplaced m w b ≡ false → InPlace m w b
unfolding misplaced
in_place m w b e =
    let (e1, few) = or_no _ _ e in
    let (e2, many) = or_no _ _ e1 in
    let (e3, missing) = or_no _ _ e2 in
    let (e4, feed) = or_no _ _ e3 in
    let (other, after) = or_no _ _ e4 in
    record {
      known = not_no _ other;
      after_cr_lem = after;
      feed = feed;
      not_missing = missing;
      not_many = many;
      not_few = few;
    }
  where
    not_no : (b : Bool) → not b ≡ false → b ≡ true
    not_no true e = refl
    not_no false e = sym e

-- at the end
pub end_passed :
    (m : ℕ) (w : List ℕ) → first_fault (faults_from m w []) ≡ accepted tt → (starts_line w and 1 <? line_of w) ≡ true
unfolding faults_from end_faults
end_passed m w e = ⊎_elim
    (λ (t : (starts_line w and 1 <? line_of w) ≡ true). t)
    (λ (t : (starts_line w and 1 <? line_of w) ≡ false).
    absurd (clash (ap not t) (no_fault _ _ _ (no_fault _ _ _ e).1).0))
    (decide (starts_line w and 1 <? line_of w))
