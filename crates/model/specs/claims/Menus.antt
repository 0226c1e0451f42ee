-- The price list of a guest. Each statement is a type; its proof is a term of proofs/.
use Rattle.std.specs.Prelude.{ℕ, ◌+◌, ◌*◌, ◌-◌, ◌≤◌, ◌<◌, true, false, List, ◌↔◌, ◌≡◌, ℤ, pos, get_or, length, ◌≤ℤ◌}
use Rattle.model.specs.Limits.{max_price}
use Rattle.model.specs.Counting.{◌≤?◌}
use Rattle.model.specs.Promises.{RepliesOut}
use Rattle.model.specs.Verdicts.{accepted, first_fault}
use Rattle.model.specs.market.Market.{Tables, bid_at, market_by, cut, opens}
use Rattle.model.specs.market.Mechanism.{charged, truthful}
use Rattle.model.specs.market.Faults.{Accepted}
use Rattle.model.specs.market.Rules.{position}
use Rattle.model.specs.market.Changes.{with_row}
use Rattle.model.specs.market.Menus.{no_bar, PriceList, price_list_by, station_from, charge_from, gain_from}
use Rattle.model.specs.market.Menus.{row_in, listing_faults, gaining_faults}
use Rattle.model.specs.claims.Truth.{screened_by, holds_by, HoldsPlace, charge_at, AlikeButForGuest}
use Rattle.model.specs.claims.OtherRows.{RowFits, assigned_by, gain_by, TriedCall}
use Rattle.model.specs.claims.Marking.{FullyCleared, given, place_in, charge_in}
use Rattle.model.specs.claims.Meaning.{NamesRule}
use Rattle.model.specs.clauses.EntryPoints.{listing, gaining}
use Rattle.model.specs.declared.rule.Rule.{Rule}

-- the list does not move with the guest's own bids
abbrev pub PriceListStaysBy : (rule : ℕ → ℕ) → Type 0
PriceListStaysBy rule =
    (t t' : Tables) (i : ℕ) → AlikeButForGuest t t' i → price_list_by rule t' i ≡ price_list_by rule t i

-- how the list reads at station j: where it is not open no bar and 0; where it is, the price is cut times amount or
-- more, and the bar is the price or one above
pub record ListReads (rule : ℕ → ℕ) (t : Tables) (i j : ℕ) : Type 0 where
  pub closed :
      opens (market_by rule t) j ≡ false
      → (get_or (price_list_by rule t i).bars j 0 ≡ no_bar) × (get_or (price_list_by rule t i).prices j 0 ≡ 0)
  pub covers_cut :
      opens (market_by rule t) j ≡ true
      → cut (market_by rule t) * get_or t.amounts i 0 ≤ get_or (price_list_by rule t i).prices j 0
  pub near :
      opens (market_by rule t) j ≡ true
      → (get_or (price_list_by rule t i).prices j 0 ≤ get_or (price_list_by rule t i).bars j 0)
      × (get_or (price_list_by rule t i).bars j 0 ≤ get_or (price_list_by rule t i).prices j 0 + 1)

abbrev pub ListsReadBy : (rule : ℕ → ℕ) → Type 0
ListsReadBy rule = (t : Tables) (i j : ℕ) → j < length t.asks → ListReads rule t i j

-- guest i holds a place at station j exactly where its total reaches the bar; so exactly where the station is open, its
-- bid is at least the cut, and its total reaches the bar. The charge there is then the price
pub record PlaceByList (rule : ℕ → ℕ) (t : Tables) (i j : ℕ) : Type 0 where
  pub by_bar :
      holds_by rule t i j ≡ (get_or (price_list_by rule t i).bars j 0 ≤? bid_at t i j * get_or t.amounts i 0)
  pub in_words :
      HoldsPlace rule t i j
      ↔ ((opens (market_by rule t) j ≡ true) × (cut (market_by rule t) ≤ bid_at t i j)
      × (get_or (price_list_by rule t i).bars j 0 ≤ bid_at t i j * get_or t.amounts i 0))
  pub at_price : HoldsPlace rule t i j → charge_at rule t i j ≡ get_or (price_list_by rule t i).prices j 0

abbrev pub PlacesByListBy : (rule : ℕ → ℕ) → Type 0
PlacesByListBy rule =
    (t : Tables) (i j : ℕ) → Accepted t → i < length t.amounts → j < length t.asks → PlaceByList rule t i j

-- whatever row guest i states, its places, station, charge and gain are those that its list gives the row
pub record RowByList (rule : ℕ → ℕ) (t : Tables) (i : ℕ) (row : List ℕ) : Type 0 where
  pub places :
      (j : ℕ) → j < length t.asks
      → holds_by rule (with_row t i row) i j
      ≡ (get_or (price_list_by rule t i).bars j 0 ≤? get_or row j 0 * get_or t.amounts i 0)
  pub station :
      assigned_by rule (with_row t i row) i ≡ station_from (price_list_by rule t i) (get_or t.amounts i 0) row
  pub charge :
      charged (screened_by rule (with_row t i row)) (truthful (screened_by rule (with_row t i row))) i
      ≡ charge_from (price_list_by rule t i) (get_or t.amounts i 0) row
  pub gain :
      (worths : List ℕ)
      → gain_from (price_list_by rule t i) (get_or t.amounts i 0) worths row ≡ gain_by rule (with_row t i row) i worths

abbrev pub RowsByListBy : (rule : ℕ → ℕ) → Type 0
RowsByListBy rule =
    (t : Tables) (i : ℕ) (row : List ℕ) → Accepted t → i < length t.amounts → RowFits t row
    → RowByList rule t i row

-- no row gains more than the worths
abbrev pub WorthsGainMostBy : (rule : ℕ → ℕ) → Type 0
WorthsGainMostBy rule =
    (t : Tables) (i : ℕ) (worths row : List ℕ) → Accepted t → i < length t.amounts → RowFits t worths
    → RowFits t row → let L = price_list_by rule t i in let amount = get_or t.amounts i 0 in
    gain_from L amount worths row ≤ℤ gain_from L amount worths worths

-- at any position of the cut that depends on the number of stations alone, so under each rule
abbrev pub PriceListStays : Type 0
PriceListStays = (rule : ℕ → ℕ) → PriceListStaysBy rule

abbrev pub PriceListStaysUnder : Type 0
PriceListStaysUnder = (rule : Rule) → PriceListStaysBy (position rule)

abbrev pub ListsRead : Type 0
ListsRead = (rule : ℕ → ℕ) → ListsReadBy rule

abbrev pub ListsReadUnder : Type 0
ListsReadUnder = (rule : Rule) → ListsReadBy (position rule)

abbrev pub PlacesByList : Type 0
PlacesByList = (rule : ℕ → ℕ) → PlacesByListBy rule

abbrev pub PlacesByListUnder : Type 0
PlacesByListUnder = (rule : Rule) → PlacesByListBy (position rule)

abbrev pub RowsByList : Type 0
RowsByList = (rule : ℕ → ℕ) → RowsByListBy rule

abbrev pub RowsByListUnder : Type 0
RowsByListUnder = (rule : Rule) → RowsByListBy (position rule)

abbrev pub WorthsGainMost : Type 0
WorthsGainMost = (rule : ℕ → ℕ) → WorthsGainMostBy rule

abbrev pub WorthsGainMostUnder : Type 0
WorthsGainMostUnder = (rule : Rule) → WorthsGainMostBy (position rule)

-- ---- acceptance

-- a call for a price list is accepted exactly where its number names a rule, its market is accepted, its guest is one
-- of the market's, and both lists are m long
pub record ListingWithinLimits (rule : ℕ) (t : Tables) (guest bars prices : ℕ) : Type 0 where
  pub rule_known : NamesRule rule
  pub market_accepted : Accepted t
  pub guest_least : 1 ≤ guest
  pub guest_most : guest ≤ length t.amounts
  pub bars_long : bars ≡ length t.asks
  pub prices_long : prices ≡ length t.asks

abbrev pub ListingAcceptedIffWithinLimits : Type 0
ListingAcceptedIffWithinLimits =
    (rule : ℕ) (t : Tables) (guest bars prices : ℕ)
    → (first_fault (listing_faults rule t guest bars prices) ≡ accepted tt)
    ↔ ListingWithinLimits rule t guest bars prices

-- k rows that fit t, one after the other
pub record RowsFit (t : Tables) (rows : List ℕ) (k : ℕ) : Type 0 where
  pub rows_length : length rows ≡ k * length t.asks
  pub rows_most : (q : ℕ) → q < length rows → get_or rows q 0 ≤ max_price

-- a call for gains, where the worths and the rows fit and there is a gain for each row
pub record GainingWithinLimits (rule : ℕ) (t : Tables) (guest : ℕ) (worths rows : List ℕ) (gains : ℕ) : Type 0 where
  pub rule_known : NamesRule rule
  pub market_accepted : Accepted t
  pub guest_least : 1 ≤ guest
  pub guest_most : guest ≤ length t.amounts
  pub worths_fit : RowFits t worths
  pub rows_fit : RowsFit t rows gains

abbrev pub GainingAcceptedIffWithinLimits : Type 0
GainingAcceptedIffWithinLimits =
    (rule : ℕ) (t : Tables) (guest : ℕ) (worths rows : List ℕ) (gains : ℕ)
    → (first_fault (gaining_faults rule t guest worths rows gains) ≡ accepted tt)
    ↔ GainingWithinLimits rule t guest worths rows gains

-- ---- over calls of the exported `menu` and `gains`, which answer 0 exactly within these limits

abbrev pub ListedIffWithinLimits : Type 0
ListedIffWithinLimits =
    (rule : ℕ) (t : Tables) (guest : ℕ) (entry exit : PriceList) (number : ℕ)
    → RepliesOut (listing rule t guest) entry number exit
    → (number ≡ 0) ↔ ListingWithinLimits rule t guest (length entry.bars) (length entry.prices)

abbrev pub GainedIffWithinLimits : Type 0
GainedIffWithinLimits =
    (rule : ℕ) (t : Tables) (guest : ℕ) (worths rows : List ℕ) (entry exit : List ℤ) (number : ℕ)
    → RepliesOut (gaining rule t guest worths rows) entry number exit
    → (number ≡ 0) ↔ GainingWithinLimits rule t guest worths rows (length entry)

-- calls that answered 0, whatever their lists held before
pub record ListedCall (rule : ℕ) (t : Tables) (guest : ℕ) : Type 0 where
  pub entry : PriceList
  pub exit : PriceList
  pub call : RepliesOut (listing rule t guest) entry 0 exit

pub record GainedCall (rule : ℕ) (t : Tables) (guest : ℕ) (worths rows : List ℕ) : Type 0 where
  pub entry : List ℤ
  pub exit : List ℤ
  pub call : RepliesOut (gaining rule t guest worths rows) entry 0 exit

-- there are such calls for every guest of every accepted market, under either rule, with worths and rows that fit
abbrev pub ListedCallExists : Type 0
ListedCallExists =
    (rule : ℕ) (t : Tables) (guest : ℕ) → NamesRule rule → Accepted t → 1 ≤ guest → guest ≤ length t.amounts
    → ListedCall rule t guest

abbrev pub GainedCallExists : Type 0
GainedCallExists =
    (rule : ℕ) (t : Tables) (guest : ℕ) (worths rows : List ℕ) (k : ℕ) → NamesRule rule → Accepted t → 1 ≤ guest
    → guest ≤ length t.amounts → RowFits t worths → RowsFit t rows k → GainedCall rule t guest worths rows

-- two calls under one rule on markets that are alike but for the guest's bids give one list
abbrev pub PriceListStaysCalls : Type 0
PriceListStaysCalls =
    (rule : ℕ) (t t' : Tables) (guest : ℕ) (k : ListedCall rule t guest) (k' : ListedCall rule t' guest)
    → AlikeButForGuest t t' (guest - 1) → k'.exit ≡ k.exit

-- beside a call of `clear_marked`, on the same market or on one with other bids of the guest alone: its place is 1
-- exactly where its total there reaches the bar; so exactly where its bid there is at least the cut and its total
-- reaches the bar. Where it is 1 the charge is the price
pub record PlaceByListCalls (rule : ℕ) (t' : Tables) (i j : ℕ) (L : PriceList) (c : FullyCleared rule t') : Type 0 where
  pub by_bar :
      (place_in t' c.exit i j ≡ 1) ↔ (get_or L.bars j 0 ≤ bid_at t' i j * get_or t'.amounts i 0)
  pub in_words :
      (place_in t' c.exit i j ≡ 1)
      ↔ ((c.cut ≤ bid_at t' i j) × (get_or L.bars j 0 ≤ bid_at t' i j * get_or t'.amounts i 0))
  pub at_price : place_in t' c.exit i j ≡ 1 → charge_in t' (given c) i j ≡ get_or L.prices j 0

abbrev pub PlacesByListCalls : Type 0
PlacesByListCalls =
    (rule : ℕ) (t t' : Tables) (guest : ℕ) (k : ListedCall rule t guest) (c : FullyCleared rule t')
    → AlikeButForGuest t t' (guest - 1) → (j : ℕ) → j < length t.asks
    → PlaceByListCalls rule t' (guest - 1) j k.exit c

-- beside calls of `try`: row by row the gain is the second of the call that tries the row
pub record GainsTellTries (rule : ℕ) (t : Tables) (guest : ℕ) (worths rows : List ℕ)
    (g : GainedCall rule t guest worths rows) : Type 0 where
  pub one_each : length rows ≡ length g.exit * length t.asks
  pub second_gains :
      (r : ℕ) → r < length g.exit → (c : TriedCall rule t guest worths (row_in (length t.asks) rows r))
      → get_or g.exit r (pos 0) ≡ c.second_gain

abbrev pub GainsAreSecondGains : Type 0
GainsAreSecondGains =
    (rule : ℕ) (t : Tables) (guest : ℕ) (worths rows : List ℕ) (g : GainedCall rule t guest worths rows)
    → GainsTellTries rule t guest worths rows g

-- each row can be tried, so that there are such calls
abbrev pub GainedRowsTriable : Type 0
GainedRowsTriable =
    (rule : ℕ) (t : Tables) (guest : ℕ) (worths rows : List ℕ) (g : GainedCall rule t guest worths rows) (r : ℕ)
    → r < length g.exit → TriedCall rule t guest worths (row_in (length t.asks) rows r)

-- no row gains more than a row that is the worths, in the same call or in another
abbrev pub NoGainAboveWorths : Type 0
NoGainAboveWorths =
    (rule : ℕ) (t : Tables) (guest : ℕ) (worths rows rows' : List ℕ) (g : GainedCall rule t guest worths rows)
    (g' : GainedCall rule t guest worths rows') (r q : ℕ) → r < length g.exit → q < length g'.exit
    → row_in (length t.asks) rows' q ≡ worths → get_or g.exit r (pos 0) ≤ℤ get_or g'.exit q (pos 0)
