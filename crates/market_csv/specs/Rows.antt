-- What reading a line promises. Nothing that `market_csv::read_csv` promises depends on this file.
use Rattle.std.specs.Prelude.{◌≡◌, ℕ, suc, ◌+◌, ◌*◌, ◌<◌, ◌≤◌, true, Bool, List, length, slice_index, slice_index_or}
use Rattle.std.specs.Prelude.{Result, Ok, Err}
use Rattle.model.specs.Limits.{max_guests, max_stations}
use Rattle.model.specs.Numbers.{number}
use Rattle.model.specs.Verdicts.{refused, first_fault}
use Rattle.model.specs.csv.Places.{starts_line}
use Rattle.model.specs.csv.Faults.{stations, fields_of, is_bid, most, csv_faults}
use Rattle.model.specs.csv.Content.{value, guest_field}
use Rattle.model.specs.declared.refusal.Refusal.{Refusal}
use Rattle.market_csv.specs.Reached.{Place, past, Reached}
use Rattle.market_csv.specs.Ends.{Open}
use Rattle.market_csv.specs.declared.own.OwnTables.{OwnTables}

-- a line starts at this place, after so many fields of all
pub record LineStarts (s : List ℕ) (line ended : ℕ) (p : Place) : Type 0 where
  pub reached : Reached s p.at line 0 ended 0
  pub starts : starts_line (past s p.at) ≡ true
  pub same : p.text ≡ s

-- the text's fault
abbrev pub FaultIs : List ℕ → Refusal → Type 0
FaultIs s r = first_fault (csv_faults s) ≡ refused (number r)

-- ---- asks

pub record AsksEnd (s : List ℕ) (m : ℕ) (exit : Place) (asks : List ℕ) : Type 0 where
  pub stations_are : m ≡ stations s
  pub some : 0 < m
  pub few : m ≤ max_stations
  pub starts : LineStarts s 1 m exit
  pub asks_are : (j : ℕ) → j < m → slice_index asks j ≡ value s j

unfoldable pub AsksRead : List ℕ → (exit : Place) → List ℕ → Result ℕ Refusal → Type 0
AsksRead s exit asks (Ok m) = AsksEnd s m exit asks
AsksRead s exit asks (Err r) = FaultIs s r

-- ---- a row: the fields of a line from `first` on

pub record RowDue (entry : Place) (m line first ended largest : ℕ) (may : Bool) : Type 0 where
  pub some : 0 < m
  pub after_first : 0 < line
  pub before : line < 202
  pub fields_are : fields_of (stations entry.text) line ≡ first + m
  pub largest_is : (j : ℕ) → largest ≡ most line (first + j)
  pub empty_is : (j : ℕ) → may ≡ is_bid line (first + j)
  pub reached : Reached entry.text entry.at line first ended 0
  pub unended : Open entry.text entry.at line

pub record RowEnd
    {A : Type 0} (of : ℕ → A) (s : List ℕ) (m line ended : ℕ) (exit : Place) (row : List A) : Type 0 where
  pub starts : LineStarts s line (ended + m) exit
  pub row_is : (k : ℕ) → k < m → slice_index_or row k (of 0) ≡ of (value s (ended + k))

unfoldable pub RowIs :
    {A : Type 0} (of : ℕ → A) (s : List ℕ) (m line ended : ℕ) (exit : Place) (row : List A)
    → Result Unit Refusal → Type 0
RowIs of s m line ended exit row (Ok done) = RowEnd of s m line ended exit row
RowIs of s m line ended exit row (Err r) = FaultIs s r

abbrev pub RowRead :
    {A : Type 0} (of : ℕ → A) (largest : ℕ) (may : Bool) (m : ℕ) (entry exit : Place) (row : List A)
    → Result Unit Refusal → Type 0
RowRead of largest may m entry exit row r =
    (line first ended : ℕ) → RowDue entry m line first ended largest may
    → RowIs of entry.text m (suc line) ended exit row r

-- ---- guests

-- the line of guest i comes next, and the text goes on
pub record GuestDue (entry : Place) (m i : ℕ) : Type 0 where
  pub stations_are : m ≡ stations entry.text
  pub some : 0 < m
  pub few : m ≤ max_stations
  pub low : i < max_guests
  pub starts : LineStarts entry.text (2 + i) (guest_field m i) entry
  pub more : entry.at < length entry.text

-- n numbers are put from base on; what stands before is as it was
pub record Put (base n : ℕ) (f : ℕ → ℕ) (l l' : List ℕ) : Type 0 where
  pub done : (k : ℕ) → k < n → slice_index l' (base + k) ≡ f k
  pub kept : (k : ℕ) → k < base → slice_index l' k ≡ slice_index l k

pub record GuestPut (s : List ℕ) (m i : ℕ) (own own' : OwnTables) : Type 0 where
  pub ticket : Put i 1 (λ _. value s (guest_field m i)) own.tickets own'.tickets
  pub amount : Put i 1 (λ _. value s (guest_field m i + 1)) own.amounts own'.amounts
  pub bids_are : Put (i * m) m (λ j. value s (guest_field m i + 2 + j)) own.bids own'.bids
  pub asks_kept : own'.asks ≡ own.asks
  pub bays_kept : own'.bays ≡ own.bays

pub record GuestEnd (s : List ℕ) (m i : ℕ) (exit : Place) (own own' : OwnTables) : Type 0 where
  pub starts : LineStarts s (3 + i) (guest_field m i + 2 + m) exit
  pub put : GuestPut s m i own own'

unfoldable pub GuestIs :
    List ℕ → (m i : ℕ) (exit : Place) (own own' : OwnTables) → Result Unit Refusal → Type 0
GuestIs s m i exit own own' (Ok done) = GuestEnd s m i exit own own'
GuestIs s m i exit own own' (Err r) = FaultIs s r

abbrev pub GuestRead :
    (entry : Place) (m i : ℕ) (own : OwnTables) (exit : Place) (own' : OwnTables) → Result Unit Refusal → Type 0
GuestRead entry m i own exit own' r = GuestDue entry m i → GuestIs entry.text m i exit own own' r
