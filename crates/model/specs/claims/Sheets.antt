-- 'Each well-formed sheet is read as exactly the market it states', over calls of `read`: from the sheet, the answer
-- and the lent tables alone.
use Rattle.std.specs.Prelude.{ℕ, List, ◌≡◌, length, Result}
use Rattle.model.specs.Limits.{max_guests, max_stations, max_bids}
use Rattle.model.specs.Numbers.{answer_of_reading}
use Rattle.model.specs.Verdicts.{accepted}
use Rattle.model.specs.market.Market.{Tables}
use Rattle.model.specs.sheet.Layout.{States, Bytes}
use Rattle.model.specs.sheet.Lent.{LentTables, filled}
use Rattle.model.specs.clauses.EntryPoints.{Reads}
use Rattle.model.specs.declared.answers.Counts.{Counts}
use Rattle.model.specs.declared.refusal.Refusal.{Refusal}

-- the sizes that document 01 names
pub record RightSizes (l : LentTables) : Type 0 where
  pub amounts_long : length l.amounts ≡ max_guests
  pub tickets_long : length l.tickets ≡ max_guests
  pub asks_long : length l.asks ≡ max_stations
  pub bays_long : length l.bays ≡ max_stations
  pub bids_long : length l.bids ≡ max_bids

-- a call that read t: it answers n and m and leaves t over the first places of the tables
pub record ReadAs (t : Tables) (entry : LentTables) (answer : Result Counts Refusal) (exit : LentTables) : Type 0 where
  pub answered : answer_of_reading answer ≡ accepted (length t.amounts, length t.asks)
  pub left : exit ≡ filled t entry

-- a sheet that states t is read as t
abbrev pub StatedIsRead : Type 0
StatedIsRead =
    (s : List ℕ) (t : Tables) (entry exit : LentTables) (answer : Result Counts Refusal) → RightSizes entry
    → Reads s entry answer exit → States s t → ReadAs t entry answer exit

-- and bytes that a call accepts state a market, as which they were read
abbrev pub ReadIsStated : Type 0
ReadIsStated =
    (s : List ℕ) (entry exit : LentTables) (answer : Result Counts Refusal) (n m : ℕ) → Bytes s
    → Reads s entry answer exit → answer_of_reading answer ≡ accepted (n, m)
    → (t : Tables) × States s t × ReadAs t entry answer exit

-- there are such calls: one of every sheet that states a market, as that of every accepted market does
-- (`ShortestStates`)
pub record ReadCall (s : List ℕ) (t : Tables) : Type 0 where
  pub bytes : Bytes s
  pub entry : LentTables
  pub right_sizes : RightSizes entry
  pub answer : Result Counts Refusal
  pub exit : LentTables
  pub call : Reads s entry answer exit
  pub read : ReadAs t entry answer exit

abbrev pub ReadCallExists : Type 0
ReadCallExists = (s : List ℕ) (t : Tables) → States s t → ReadCall s t
