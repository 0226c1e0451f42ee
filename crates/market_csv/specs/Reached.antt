-- A place that one pass over a text has reached: what stands before it has no fault, and is counted.
use Rattle.std.specs.Prelude.{◌≡◌, ℕ, zero, suc, ◌+◌, ◌≤◌, false, List, [], ◌∷◌, length, drop, slice_index}
use Rattle.model.specs.Verdicts.{first_fault}
use Rattle.model.specs.csv.Places.{line_of, field_of, digits_of, after_cr}
use Rattle.model.specs.csv.Faults.{stations, faults_from, csv_faults}
use Rattle.model.specs.csv.Content.{values_from, values}

-- a text, and a place in it
pub record Place : Type 0 where
  pub text : List ℕ
  pub at : ℕ

abbrev pub place : List ℕ → ℕ → Place
place text at = record { text = text; at = at }

-- the text before place p, its last byte first
unfoldable pub past : List ℕ → ℕ → List ℕ
past s zero = []
past s (suc p) = slice_index s p ∷ past s p

-- place p, in this line and field, after so many fields of all and so many digits of this one
pub record Reached (s : List ℕ) (p line field ended digits : ℕ) : Type 0 where
  pub within : p ≤ length s
  pub line_is : line_of (past s p) ≡ line
  pub field_is : field_of (past s p) ≡ field
  pub digits_are : digits_of (past s p) ≡ digits
  pub no_cr : after_cr (past s p) ≡ false
  pub verdict : first_fault (csv_faults s) ≡ first_fault (faults_from (stations s) (past s p) (drop p s))
  pub left : drop ended (values s) ≡ values_from (past s p) (drop p s)
  pub first : line ≡ 0 → stations s ≡ field + stations (drop p s)
