-- The sheet that states a market, said without reading: its bytes from the first to the last. Document 01, 'The sheet'.
use Rattle.std.specs.Prelude.{ℕ, zero, suc, ◌+◌, ◌*◌, ◌/◌, ◌%◌, ◌^◌, ◌≤◌, ◌<◌, Bool, true, false, List, [], ◌∷◌, ◌++◌}
use Rattle.std.specs.Prelude.{◌≡◌, length, get_or}
use Rattle.model.specs.Limits.{max_sheet}
use Rattle.model.specs.Counting.{◌<?◌, only, joined}
use Rattle.model.specs.market.Market.{Tables, bid_at}
use Rattle.model.specs.market.Shape.{Shaped}
use Rattle.model.specs.sheet.Fields.{map_width}
use Rattle.model.specs.Verdicts.{accepted, refused}
use Rattle.model.specs.sheet.Content.{read_sheet}

-- x in k bytes, lowest byte first
unfoldable pub bytes_of : (k x : ℕ) → List ℕ
bytes_of zero x = []
bytes_of (suc k) x = x % 256 ∷ bytes_of k (x / 256)

-- the map whose m bits, lowest first, are b 0, .., b (m - 1)
unfoldable pub pack : (m : ℕ) → (ℕ → Bool) → ℕ
pack zero b = 0
pack (suc m) b = only (b 0) 1 + 2 * pack m (λ j. b (suc j))

unfoldable pub station : Tables → ℕ → List ℕ
station t j = bytes_of 4 (get_or t.asks j 0) ++ bytes_of 2 (get_or t.bays j 0)

-- a bid has a field where its bit is set
unfoldable pub stated : Bool → ℕ → List ℕ
stated true x = bytes_of 4 x
stated false x = []

unfoldable pub row : Tables → (ℕ → ℕ → Bool) → ℕ → List ℕ
row t set i = bytes_of 2 (get_or t.amounts i 0)
    ++ (bytes_of 4 (get_or t.tickets i 0)
    ++ (bytes_of (map_width (length t.asks)) (pack (length t.asks) (set i))
    ++ joined (length t.asks) (λ j. stated (set i j) (bid_at t i j))))

-- the sheet of t with the bits `set`
unfoldable pub layout : Tables → (ℕ → ℕ → Bool) → List ℕ
layout t set = bytes_of 2 (length t.amounts)
    ++ (bytes_of 2 (length t.asks)
    ++ (joined (length t.asks) (station t)
    ++ joined (length t.amounts) (row t set)))

-- the tables have a market's shape, and each number fits its field
pub record Fitting (t : Tables) : Type 0 where
  pub shape : Shaped t
  pub ask_fits : (j : ℕ) → j < length t.asks → get_or t.asks j 0 < 256 ^ 4
  pub bays_fit : (j : ℕ) → j < length t.asks → get_or t.bays j 0 < 256 ^ 2
  pub amount_fits : (i : ℕ) → i < length t.amounts → get_or t.amounts i 0 < 256 ^ 2
  pub ticket_fits : (i : ℕ) → i < length t.amounts → get_or t.tickets i 0 < 256 ^ 4
  pub bid_fits : (i j : ℕ) → i < length t.amounts → j < length t.asks → bid_at t i j < 256 ^ 4

-- whether guest i bids for station j: a bid of 0 is none
unfoldable pub bidden : Tables → (i j : ℕ) → Bool
bidden t i j = 0 <? bid_at t i j

-- s states t: it is t's layout with a set bit for each bid that is not 0, and for no other
pub record States (s : List ℕ) (t : Tables) : Type 0 where
  pub fitting : Fitting t
  pub is : s ≡ layout t (bidden t)

abbrev pub Bytes : List ℕ → Type 0
Bytes s = (k : ℕ) → get_or s k 0 < 256

-- numbers of 32 bits, as a table of tickets holds
abbrev pub Words : List ℕ → Type 0
Words l = (k : ℕ) → get_or l k 0 < 256 ^ 4

-- ---- what is proved

-- bytes are read as t exactly where they state t
abbrev pub ReadsExactlyWhatIsStated : Type 0
ReadsExactlyWhatIsStated =
    (s : List ℕ) (t : Tables) → Bytes s
    → (read_sheet s ≡ accepted t → States s t) × (States s t → read_sheet s ≡ accepted t)

-- a sheet that states a market is bytes
abbrev pub StatedIsBytes : Type 0
StatedIsBytes = (s : List ℕ) (t : Tables) → States s t → Bytes s

-- two markets never share a sheet
abbrev pub StatesOneMarket : Type 0
StatesOneMarket = (s : List ℕ) (t u : Tables) → States s t → States s u → t ≡ u

-- and two sheets never share a market: 'Two desks' sheets for one market must match byte for byte' (document 02,
-- request 8)
abbrev pub StatedByOneSheet : Type 0
StatedByOneSheet = (s s' : List ℕ) (t : Tables) → States s t → States s' t → s' ≡ s

-- 'A set bit whose bid is 0 is refused', whatever other bits are set
abbrev pub EmptyBidIsRefused : Type 0
EmptyBidIsRefused =
    (t : Tables) (set : ℕ → ℕ → Bool) (i j : ℕ) → Fitting t → i < length t.amounts → j < length t.asks
    → set i j ≡ true → bid_at t i j ≡ 0 → read_sheet (layout t set) ≡ refused 19

-- no sheet is longer than the largest
abbrev pub SheetsAreShort : Type 0
SheetsAreShort = (s : List ℕ) (t : Tables) → States s t → length s ≤ max_sheet
