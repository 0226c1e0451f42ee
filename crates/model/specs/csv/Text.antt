-- The comma-separated texts that state a market, said without reading. Document 02, request 10.
-- Lines and the fields of a line count from 0, as in Places.antt.
use Rattle.std.specs.Prelude.{ℕ, ◌≤◌, ◌<◌, true, List, [], ◌∷◌, ◌++◌, map, reverse, ◌≡◌, length, get_or}
use Rattle.model.specs.Counting.{◌=?◌, list, joined}
use Rattle.model.specs.Verdicts.{accepted}
use Rattle.model.specs.market.Market.{Tables, bid_at}
use Rattle.model.specs.market.Shape.{Shaped}
use Rattle.model.specs.sheet.Layout.{Fitting}
use Rattle.model.specs.text.Decimal.{higher, decimal}
use Rattle.model.specs.csv.Places.{comma, cr, lf, is_digit, value_of}
use Rattle.model.specs.csv.Faults.{is_bid, most}
use Rattle.model.specs.csv.Content.{read_csv}

-- ---- lines of fields

-- what follows a field of a line: a comma and the next field, or the line end
unfoldable pub more_fields : List (List ℕ) → List ℕ
more_fields [] = cr ∷ lf ∷ []
more_fields (x ∷ xs) = comma ∷ (x ++ more_fields xs)

unfoldable pub line : List (List ℕ) → List ℕ
line [] = more_fields []
line (x ∷ xs) = x ++ more_fields xs

unfoldable pub lines : List (List (List ℕ)) → List ℕ
lines [] = []
lines (fields ∷ rest) = line fields ++ lines rest

abbrev pub field_at : List (List (List ℕ)) → (l k : ℕ) → List ℕ
field_at fields l k = get_or (get_or fields l []) k []

-- ---- the texts that state t

-- the number in a field, read from its first digit to its last; 0 for none
unfoldable pub number_in : List ℕ → ℕ
number_in x = value_of (reverse x)

-- field k of line l is good: digits alone, at most ten of them, none only for a bid, and a value within its table's
-- width
pub record GoodField (l k : ℕ) (x : List ℕ) : Type 0 where
  pub digits_only : (p : ℕ) → p < length x → is_digit (get_or x p 0) ≡ true
  pub ten_most : length x ≤ 10
  pub there : length x ≡ 0 → is_bid l k ≡ true
  pub fits : number_in x ≤ most l k

-- t's numbers, line by line
unfoldable pub guest_numbers : Tables → ℕ → List ℕ
guest_numbers t i = get_or t.tickets i 0 ∷ get_or t.amounts i 0 ∷ list (length t.asks) (bid_at t i)

unfoldable pub numbers_of : Tables → List (List ℕ)
numbers_of t = t.asks ∷ t.bays ∷ joined (length t.amounts) (λ i. guest_numbers t i ∷ [])

-- a text states t: its lines have good fields, whose numbers are those of t
pub record StatesCsv (text : List ℕ) (t : Tables) : Type 0 where
  pub shape : Shaped t
  pub fields : List (List (List ℕ))
  pub is : text ≡ lines fields
  pub numbers_are : map (map number_in) fields ≡ numbers_of t
  pub good : (l k : ℕ) → l < length fields → k < length (get_or fields l []) → GoodField l k (field_at fields l k)

-- ---- the one that lays t out: no leading zeros, an empty field for a bid of 0

unfoldable pub bid_text : ℕ → List ℕ
bid_text x = higher (x =? 0) (decimal x)

unfoldable pub guest_fields : Tables → ℕ → List (List ℕ)
guest_fields t i =
    decimal (get_or t.tickets i 0) ∷ decimal (get_or t.amounts i 0)
    ∷ map bid_text (list (length t.asks) (bid_at t i))

unfoldable pub laid_out : Tables → List (List (List ℕ))
laid_out t =
    map decimal t.asks ∷ map decimal t.bays ∷ joined (length t.amounts) (λ i. guest_fields t i ∷ [])

unfoldable pub text_of : Tables → List ℕ
text_of t = lines (laid_out t)

-- ---- what is proved

-- a text is read as t exactly where it states t
abbrev pub ReadsExactlyWhatTextStates : Type 0
ReadsExactlyWhatTextStates =
    (text : List ℕ) (t : Tables)
    → (read_csv text ≡ accepted t → StatesCsv text t) × (StatesCsv text t → read_csv text ≡ accepted t)

-- the text that lays t out states it, wherever t has a market's shape and its values fit their widths, accepted by the
-- clearing or not; and so it is read as t
abbrev pub LaidOutStates : Type 0
LaidOutStates = (t : Tables) → Fitting t → StatesCsv (text_of t) t

abbrev pub LaidOutIsRead : Type 0
LaidOutIsRead = (t : Tables) → Fitting t → read_csv (text_of t) ≡ accepted t

-- whatever is read has such counts and values
abbrev pub ReadFits : Type 0
ReadFits = (text : List ℕ) (t : Tables) → read_csv text ≡ accepted t → Fitting t
