-- What the pass over a text promises. Nothing that `market_csv::read_csv` promises depends on this file.
use Rattle.std.specs.Prelude.{◌≡◌, ℕ, ◌+◌, ◌*◌, ◌<◌, ◌≤◌, List, slice_index, Result, Ok, Err}
use Rattle.model.specs.Limits.{max_guests, max_stations}
use Rattle.model.specs.Verdicts.{accepted, first_fault}
use Rattle.model.specs.csv.Faults.{stations, csv_faults}
use Rattle.model.specs.csv.Content.{guests, value, guest_field}
use Rattle.model.specs.declared.answers.Counts.{Counts}
use Rattle.model.specs.declared.refusal.Refusal.{Refusal}
use Rattle.market_csv.specs.Reached.{Place}
use Rattle.market_csv.specs.Rows.{LineStarts, FaultIs}
use Rattle.market_csv.specs.declared.own.OwnTables.{OwnTables}

-- the lines of n guests are in the tables
pub record GuestsHeld (s : List ℕ) (m n : ℕ) (own : OwnTables) : Type 0 where
  pub tickets_are : (i : ℕ) → i < n → slice_index own.tickets i ≡ value s (guest_field m i)
  pub amounts_are : (i : ℕ) → i < n → slice_index own.amounts i ≡ value s (guest_field m i + 1)
  pub bids_are : (i j : ℕ) → i < n → j < m → slice_index own.bids (i * m + j) ≡ value s (guest_field m i + 2 + j)

-- the line of the first guest comes next
pub record GuestsDue (entry : Place) (m : ℕ) : Type 0 where
  pub stations_are : m ≡ stations entry.text
  pub some : 0 < m
  pub few : m ≤ max_stations
  pub starts : LineStarts entry.text 2 (m + m) entry

pub record GuestsEnd (s : List ℕ) (n m : ℕ) (own own' : OwnTables) : Type 0 where
  pub good : first_fault (csv_faults s) ≡ accepted tt
  pub guests_are : n ≡ guests s
  pub few : n ≤ max_guests
  pub held : GuestsHeld s m n own'
  pub asks_kept : own'.asks ≡ own.asks
  pub bays_kept : own'.bays ≡ own.bays

unfoldable pub GuestsIs : List ℕ → (m : ℕ) (own own' : OwnTables) → Result ℕ Refusal → Type 0
GuestsIs s m own own' (Ok n) = GuestsEnd s n m own own'
GuestsIs s m own own' (Err r) = FaultIs s r

abbrev pub GuestsRead : (entry : Place) (m : ℕ) (own own' : OwnTables) → Result ℕ Refusal → Type 0
GuestsRead entry m own own' r = GuestsDue entry m → GuestsIs entry.text m own own' r

-- all five tables
pub record Parsed (s : List ℕ) (n m : ℕ) (own : OwnTables) : Type 0 where
  pub good : first_fault (csv_faults s) ≡ accepted tt
  pub guests_are : n ≡ guests s
  pub stations_are : m ≡ stations s
  pub few_guests : n ≤ max_guests
  pub some : 0 < m
  pub few : m ≤ max_stations
  pub held : GuestsHeld s m n own
  pub asks_are : (j : ℕ) → j < m → slice_index own.asks j ≡ value s j
  pub bays_are : (j : ℕ) → j < m → slice_index own.bays j ≡ value s (m + j)

unfoldable pub ParseRead : List ℕ → OwnTables → Result Counts Refusal → Type 0
ParseRead s own (Ok counts) = Parsed s counts.guests counts.stations own
ParseRead s own (Err r) = FaultIs s r
