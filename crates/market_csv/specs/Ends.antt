-- What reading a field promises. Nothing that `market_csv::read_csv` promises depends on this file.
use Rattle.std.specs.Prelude.{◌≡◌, ℕ, suc, ◌+◌, ◌<◌, ◌≤◌, Bool, true, false, ◌⊎◌, List, length, slice_index_or}
use Rattle.std.specs.Prelude.{Result, Ok, Err}
use Rattle.model.specs.Counting.{◌<?◌, ◌=?◌, ◌and◌}
use Rattle.model.specs.Numbers.{number}
use Rattle.model.specs.Verdicts.{refused, first_fault}
use Rattle.model.specs.csv.Places.{comma, cr, lf, digits_of, value_of, starts_line}
use Rattle.model.specs.csv.Faults.{stations, fields_of, is_bid, most, too_large, csv_faults}
use Rattle.model.specs.csv.Content.{value}
use Rattle.model.specs.declared.refusal.Refusal.{Refusal}
use Rattle.model.specs.declared.refusal.Refusal.TheVariants.{MalformedText}
use Rattle.market_csv.specs.Reached.{Place, past, Reached}
use Rattle.market_csv.specs.declared.reader.Field.{Field}

-- LF stands at a place, or not
unfoldable pub Feeding : List ℕ → ℕ → Bool → Type 0
Feeding s at true = (at < length s) × (slice_index_or s at 0 ≡ lf)
Feeding s at false = (length s ≤ at) ⊎ ((at < length s) × (slice_index_or s at 0 =? lf ≡ false))

-- what stands where digits end: a comma, a line end, or neither; and the place after it
pub record AtComma (s : List ℕ) (end at : ℕ) : Type 0 where
  pub there : end < length s
  pub byte : slice_index_or s end 0 ≡ comma
  pub next : at ≡ suc end

pub record AtLineEnd (s : List ℕ) (end at : ℕ) : Type 0 where
  pub there : suc end < length s
  pub byte : slice_index_or s end 0 ≡ cr
  pub feed : slice_index_or s (suc end) 0 ≡ lf
  pub next : at ≡ suc (suc end)

unfoldable pub AtEnd : List ℕ → (end : ℕ) (last : Bool) (at : ℕ) → Type 0
AtEnd s end false at = AtComma s end at
AtEnd s end true at = AtLineEnd s end at

pub data AtNeither (s : List ℕ) (end : ℕ) : Type 0 where
  over : length s ≤ end → AtNeither s end
  other :
      end < length s → slice_index_or s end 0 =? comma ≡ false → slice_index_or s end 0 =? cr ≡ false
      → AtNeither s end
  alone : end < length s → slice_index_or s end 0 ≡ cr → Feeding s (suc end) false → AtNeither s end

unfoldable pub EnderRead : List ℕ → (end : ℕ) → Result (Bool × ℕ) Refusal → Type 0
EnderRead s end (Ok (last, at)) = AtEnd s end last at
EnderRead s end (Err r) = (r ≡ MalformedText) × AtNeither s end

-- the field with this line and number, after so many of all, ends at `end`, is v, and is not too large
pub record FieldEnds (s : List ℕ) (line field ended v : ℕ) (empty : Bool) (end : ℕ) : Type 0 where
  pub digits : ℕ
  pub reached : Reached s end line field ended digits
  pub small : too_large (past s end) ≡ false
  pub value_is : v ≡ value_of (past s end)
  pub low : v ≤ most line field
  pub empty_is : empty ≡ (digits_of (past s end) =? 0)

-- the text does not end well at this place
abbrev pub Open : List ℕ → (from line : ℕ) → Type 0
Open s from line = (from < length s) ⊎ ((starts_line (past s from) and 1 <? line) ≡ false)

-- where it is read; or the text's fault
pub record FieldIs (s : List ℕ) (line field ended : ℕ) (exit : Place) (x : Field) : Type 0 where
  pub end : ℕ
  pub ends : FieldEnds s line field ended x.value x.empty end
  pub ender : AtEnd s end x.last exit.at
  pub same : exit.text ≡ s

unfoldable pub ReadAs : List ℕ → (line field ended : ℕ) (exit : Place) → Result Field Refusal → Type 0
ReadAs s line field ended exit (Ok x) = FieldIs s line field ended exit x
ReadAs s line field ended exit (Err r) = first_fault (csv_faults s) ≡ refused (number r)

abbrev pub FieldRead : (entry : Place) (largest : ℕ) (exit : Place) → Result Field Refusal → Type 0
FieldRead entry largest exit r =
    (line field ended : ℕ) → Reached entry.text entry.at line field ended 0 → line < 202 → largest ≡ most line field
    → Open entry.text entry.at line → ReadAs entry.text line field ended exit r

-- ---- a field of a line whose count of fields is known

pub record Due (entry : Place) (line field ended largest : ℕ) (may_be_empty last : Bool) : Type 0 where
  pub reached : Reached entry.text entry.at line field ended 0
  pub after_first : 0 < line
  pub before : line < 202
  pub largest_is : largest ≡ most line field
  pub empty_is : may_be_empty ≡ is_bid line field
  pub in_line : field < fields_of (stations entry.text) line
  pub last_is : last ≡ (field + 1 =? fields_of (stations entry.text) line)
  pub unended : Open entry.text entry.at line

-- where it is taken
unfoldable pub After : List ℕ → (line field ended : ℕ) (last : Bool) (at : ℕ) → Type 0
After s line field ended true at = Reached s at (suc line) 0 (suc ended) 0 × (starts_line (past s at) ≡ true)
After s line field ended false at = Reached s at line (suc field) (suc ended) 0 × (starts_line (past s at) ≡ false)

pub record Taken (s : List ℕ) (line field ended : ℕ) (last : Bool) (exit : Place) : Type 0 where
  pub after : After s line field ended last exit.at
  pub same : exit.text ≡ s

unfoldable pub TookAs :
    {A : Type 0} (of : ℕ → A) (s : List ℕ) (line field ended : ℕ) (last : Bool) (exit : Place)
    → Result A Refusal → Type 0
TookAs of s line field ended last exit (Ok x) = (x ≡ of (value s ended)) × Taken s line field ended last exit
TookAs of s line field ended last exit (Err r) = first_fault (csv_faults s) ≡ refused (number r)

abbrev pub TakeRead :
    {A : Type 0} (of : ℕ → A) (largest : ℕ) (may_be_empty last : Bool) (entry exit : Place)
    → Result A Refusal → Type 0
TakeRead of largest may_be_empty last entry exit r =
    (line field ended : ℕ) → Due entry line field ended largest may_be_empty last
    → TookAs of entry.text line field ended last exit r
