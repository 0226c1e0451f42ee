-- The shortest sheet that states a market, and the faults of a call that writes it. Document 02, requests 1 and 8.
use Rattle.std.specs.Prelude.{ℕ, ◌≤◌, ◌<◌, Bool, false, List, [], ◌∷◌, ◌++◌, ◌↔◌, ◌≡◌, length}
use Rattle.std.proofs.Math.Seq.{paste}
use Rattle.model.specs.Limits.{max_sheet}
use Rattle.model.specs.Counting.{◌<?◌}
use Rattle.model.specs.market.Market.{Tables, bid_at}
use Rattle.model.specs.market.Faults.{market_faults, Accepted}
use Rattle.model.specs.Verdicts.{Row, ◌gives◌, accepted}
use Rattle.model.specs.sheet.Content.{read_sheet}
use Rattle.model.specs.sheet.Layout.{layout, bidden, States, Bytes, Words}

-- 'with no set bit for a bid of 0'
unfoldable pub shortest : Tables → List ℕ
shortest t = layout t (bidden t)

-- an output with the sheet over its first places; what is beyond is not touched
unfoldable pub written : Tables → (output : List ℕ) → List ℕ
written t output = paste output 0 (shortest t) (length (shortest t))

-- '14 where the lent output is too short for the sheet, after the clearing's own checks'
unfoldable pub writing_faults : Tables → (room : ℕ) → List Row
writing_faults t room = market_faults t ++ ((room <? length (shortest t) gives 14) ∷ [])

-- ---- what is proved. That tickets have 32 bits is asked for where no call says so: no number refuses another one

-- 'a writer from an accepted market to the shortest sheet that states it'
abbrev pub ShortestStates : Type 0
ShortestStates = (t : Tables) → Accepted t → Words t.tickets → States (shortest t) t

-- 'Reading its output returns the same market'
abbrev pub ShortestIsRead : Type 0
ShortestIsRead = (t : Tables) → Accepted t → Words t.tickets → read_sheet (shortest t) ≡ accepted t

-- with other bits set beside those of the bids that are not 0 the layout is no shorter; as long it is the same
abbrev pub ShortestIsLeast : Type 0
ShortestIsLeast =
    (t : Tables) (set : ℕ → ℕ → Bool)
    → ((i j : ℕ) → i < length t.amounts → j < length t.asks → set i j ≡ false → bid_at t i j ≡ 0)
    → (length (shortest t) ≤ length (layout t set))
    × (length (layout t set) ≡ length (shortest t) → layout t set ≡ shortest t)

-- 'a second reading and writing alters nothing'
abbrev pub SecondChangesNothing : Type 0
SecondChangesNothing =
    (s : List ℕ) (t u : Tables) → Bytes s → read_sheet s ≡ accepted t → Accepted t
    → read_sheet (shortest t) ≡ accepted u → (u ≡ t) × (shortest u ≡ shortest t)

-- an output as long as the largest sheet is never too short
abbrev pub ShortestFits : Type 0
ShortestFits = (t : Tables) → Accepted t → length (shortest t) ≤ max_sheet

-- 'every sheet that states an accepted market is the one the writer makes' (request 8)
abbrev pub StatedIsShortest : Type 0
StatedIsShortest = (s : List ℕ) (t : Tables) → States s t → s ≡ shortest t

-- the sheets that reader and clearing both accept are exactly those that the writer writes
abbrev pub AcceptedExactlyIfWritten : Type 0
AcceptedExactlyIfWritten =
    (s : List ℕ) (t : Tables) → Bytes s
    → ((read_sheet s ≡ accepted t) × Accepted t) ↔ (Accepted t × Words t.tickets × (s ≡ shortest t))
