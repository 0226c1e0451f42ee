-- Document 02, request 1, over calls of `read` and `write`: from tables, sheets, outputs and answers alone.
use Rattle.std.specs.Prelude.{ℕ, ◌*◌, ◌≤◌, List, ◌≡◌, ◌↔◌, length, take, Result}
use Rattle.model.specs.Numbers.{answer_of_reading, answer_of_writing}
use Rattle.model.specs.Verdicts.{accepted, first_fault}
use Rattle.model.specs.market.Market.{Tables, tables}
use Rattle.model.specs.market.Faults.{Accepted}
use Rattle.model.specs.sheet.Layout.{States, Bytes, Words}
use Rattle.model.specs.sheet.Shortest.{shortest, writing_faults}
use Rattle.model.specs.sheet.Lent.{LentTables}
use Rattle.model.specs.clauses.EntryPoints.{Reads, Writes}
use Rattle.model.specs.claims.Sheets.{RightSizes, ReadAs}
use Rattle.model.specs.declared.answers.Counts.{Counts}
use Rattle.model.specs.declared.refusal.Refusal.{Refusal}

-- a writing is accepted exactly where its market is and the output has room for the sheet
abbrev pub WritingAcceptedIffWithinLimits : Type 0
WritingAcceptedIffWithinLimits =
    (t : Tables) (room : ℕ)
    → (first_fault (writing_faults t room) ≡ accepted tt) ↔ (Accepted t × (length (shortest t) ≤ room))

-- a call of `write` that gave sheet s. Its tickets have 32 bits, as those of every `&[u32]`
pub record Gave (t : Tables) (s : List ℕ) : Type 0 where
  pub tickets_are : Words t.tickets
  pub entry : List ℕ
  pub exit : List ℕ
  pub answer : Result ℕ Refusal
  pub called : Writes t entry answer exit
  pub answered : answer_of_writing answer ≡ accepted (length s)
  pub is : s ≡ take (length s) exit

-- the market in the first places of the reader's tables
abbrev pub market_in : LentTables → (n m : ℕ) → Tables
market_in l n m =
    tables (take m l.asks) (take m l.bays) (take n l.amounts) (take n l.tickets) (take (n * m) l.bids) m

-- a call of `read` that took t from sheet s
pub record Took (s : List ℕ) (t : Tables) : Type 0 where
  pub entry : LentTables
  pub exit : LentTables
  pub answer : Result Counts Refusal
  pub n : ℕ
  pub m : ℕ
  pub called : Reads s entry answer exit
  pub answered : answer_of_reading answer ≡ accepted (n, m)
  pub is : t ≡ market_in exit n m

-- reading the writer's output returns the same market
abbrev pub WrittenIsRead : Type 0
WrittenIsRead =
    (t : Tables) (s : List ℕ) (entry exit : LentTables) (answer : Result Counts Refusal) → Gave t s → RightSizes entry
    → Reads s entry answer exit → ReadAs t entry answer exit

-- writing what was read is never longer than the sheet: it is that sheet
abbrev pub WrittenAsRead : Type 0
WrittenAsRead = (s s' : List ℕ) (t : Tables) → Bytes s → Took s t → Gave t s' → s' ≡ s

-- a second reading and writing alters nothing
abbrev pub SecondAltersNothing : Type 0
SecondAltersNothing =
    (t u : Tables) (s s' : List ℕ) → Gave t s → Took s u → Gave u s' → (u ≡ t) × (s' ≡ s)

-- there are such calls: for every accepted market, and for every sheet that states a market
abbrev pub GaveExists : Type 0
GaveExists = (t : Tables) → Accepted t → Words t.tickets → Gave t (shortest t)

abbrev pub TookExists : Type 0
TookExists = (s : List ℕ) (t : Tables) → States s t → Took s t
