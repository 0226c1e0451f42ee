-- Document 02, request 8, over calls of `read` and `write`: a market has one sheet, and the writer makes it.
use Rattle.std.specs.Prelude.{ℕ, ◌≤◌, ◌<◌, Bool, true, List, ◌↔◌, ◌≡◌, length, Result}
use Rattle.std.proofs.Math.Seq.{paste}
use Rattle.model.specs.Numbers.{answer_of_reading, answer_of_writing}
use Rattle.model.specs.Verdicts.{accepted, refused}
use Rattle.model.specs.market.Market.{Tables, bid_at}
use Rattle.model.specs.market.Faults.{Accepted}
use Rattle.model.specs.sheet.Layout.{layout, Fitting, States, Bytes, Words}
use Rattle.model.specs.sheet.Shortest.{shortest}
use Rattle.model.specs.sheet.Lent.{LentTables}
use Rattle.model.specs.clauses.EntryPoints.{Reads, Writes}
use Rattle.model.specs.claims.Sheets.{RightSizes}
use Rattle.model.specs.claims.Writings.{Gave, Took}
use Rattle.model.specs.declared.answers.Counts.{Counts}
use Rattle.model.specs.declared.refusal.Refusal.{Refusal}

-- a sheet with a set bit for a bid of 0 is refused, and no lent table is altered
abbrev pub EmptyBidIsTurnedAway : Type 0
EmptyBidIsTurnedAway =
    (t : Tables) (set : ℕ → ℕ → Bool) (i j : ℕ) (entry exit : LentTables) (answer : Result Counts Refusal) → Fitting t
    → i < length t.amounts → j < length t.asks → set i j ≡ true → bid_at t i j ≡ 0 → RightSizes entry
    → Reads (layout t set) entry answer exit → (answer_of_reading answer ≡ refused 19) × (exit ≡ entry)

-- every sheet that states a market is the one that the writer gave for it
abbrev pub StatedIsGiven : Type 0
StatedIsGiven = (s s' : List ℕ) (t : Tables) → States s t → Gave t s' → s' ≡ s

-- two sheets that one market was read from are one, accepted by the clearing or not
abbrev pub ReadFromOneSheet : Type 0
ReadFromOneSheet = (s s' : List ℕ) (t : Tables) → Bytes s → Bytes s' → Took s t → Took s' t → s' ≡ s

-- the sheets from which an accepted market was read are exactly those that the writer gave for it
abbrev pub TakenExactlyIfGiven : Type 0
TakenExactlyIfGiven = (s : List ℕ) (t : Tables) → Bytes s → (Took s t × Accepted t) ↔ Gave t s

-- what was read from s and is accepted is written as s, byte for byte, wherever there is room for it
abbrev pub ReadIsWritten : Type 0
ReadIsWritten =
    (s : List ℕ) (t : Tables) (entry exit : List ℕ) (answer : Result ℕ Refusal) → Bytes s → Took s t → Accepted t
    → length s ≤ length entry → Writes t entry answer exit
    → (answer_of_writing answer ≡ accepted (length s)) × (exit ≡ paste entry 0 s (length s))

-- there are such calls: one that is turned away, for every set bit of a bid of 0
abbrev pub EmptyBidCallExists : Type 0
EmptyBidCallExists =
    (t : Tables) (set : ℕ → ℕ → Bool) (i j : ℕ) → Fitting t → i < length t.amounts → j < length t.asks
    → set i j ≡ true → bid_at t i j ≡ 0
    → (entry : LentTables) × (answer : Result Counts Refusal) × RightSizes entry
    × Reads (layout t set) entry answer entry

-- one that reads its sheet and one that gives it, for every accepted market
abbrev pub TookAndGaveExist : Type 0
TookAndGaveExist =
    (t : Tables) → Accepted t → Words t.tickets
    → Bytes (shortest t) × States (shortest t) t × Took (shortest t) t × Gave t (shortest t)
