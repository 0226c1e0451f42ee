-- A guest's price list: by station, the least total with which it holds a place there and its charge there, both of the
-- others' bids alone; and what a row of bids comes to by such a list. Ours, after document 02's fourteen requests.
-- Guests and stations count from 0 here; a call names its guest from 1 on.
use Rattle.std.specs.Prelude.{ℕ, ◌+◌, ◌*◌, ◌-◌, ◌/◌, ◌%◌, max, Bool, cond, not, List, [], ◌∷◌, ◌++◌, ℤ, get_or, length}
use Rattle.std.proofs.Math.IntN.{sub_ℕ}
use Rattle.model.specs.Limits.{max_price}
use Rattle.model.specs.Counting.{◌<?◌, ◌≤?◌, ◌=?◌, ◌and◌, ◌or◌, only, some, any, list, joined}
use Rattle.model.specs.Verdicts.{Row, ◌gives◌}
use Rattle.model.specs.market.Market.{Tables, Market, market_by, cut, opens, screen, Queue, queue, first_out}
use Rattle.model.specs.market.Market.{critical}
use Rattle.model.specs.market.Mechanism.{at, best}
use Rattle.model.specs.market.Faults.{outside, unknown_rule, market_faults}
use Rattle.model.specs.market.Changes.{no_such_guest}

-- what a guest chooses from: stations on offer, each with the least total that is admitted and the charge
pub record Menu : Type 0 where
  pub offered : ℕ → Bool
  pub bar : ℕ → ℕ
  pub price : ℕ → ℕ

-- of the m stations, the best admitted one for a guest of these totals
unfoldable pub choice : (m : ℕ) → Menu → (total : ℕ → ℕ) → ℕ
choice m U total = best m (λ j. U.offered j and U.bar j ≤? total j) (λ j. total j - U.price j)

-- the others of a queue, with one bay fewer: whoever has no place there has none once i has one
unfoldable pub rivals : Queue → (i : ℕ) → Queue
rivals Q i = record {
  guest_count = Q.guest_count;
  bays = Q.bays - 1;
  candidate = λ k. not (k =? i) and Q.candidate k;
  total = Q.total;
  key = Q.key;
}

-- the first of them without a place stands before i at an equal total
unfoldable pub loses_tie : Queue → (i : ℕ) → Bool
loses_tie Q i = some Q.guest_count (λ k. first_out (rivals Q i) k and Q.key k <? Q.key i)

-- guest i's menu: the open stations; each price is the cut or the rivals' critical total, whichever is larger, and the
-- bar is one higher where that critical total decides and i loses a tie
unfoldable pub menu_of : Market → (i : ℕ) → Menu
menu_of M i = record {
  offered = opens M;
  bar = λ j.
      max (cut M * M.amount i)
      (critical (rivals (queue (screen M) j) i) + only (loses_tie (queue (screen M) j) i) 1);
  price = λ j. max (cut M * M.amount i) (critical (rivals (queue (screen M) j) i));
}

-- where a station is not open: no total comes to it
abbrev pub no_bar : ℕ
no_bar = 4_294_967_295

-- a price list, station by station
pub record PriceList : Type 0 where
  pub bars : List ℕ
  pub prices : List ℕ

abbrev pub price_list : (bars prices : List ℕ) → PriceList
price_list bars prices = record { bars = bars; prices = prices }

-- a menu of m stations as a list: where a station is not open the bar is `no_bar` and the price 0
unfoldable pub listed : (m : ℕ) → Menu → PriceList
listed m U =
    price_list (list m (λ j. cond (U.offered j) (U.bar j) no_bar)) (list m (λ j. only (U.offered j) (U.price j)))

-- guest i's price list, by a rule for the position of the cut
unfoldable pub price_list_by : (rule : ℕ → ℕ) → Tables → (i : ℕ) → PriceList
price_list_by rule t i = listed (length t.asks) (menu_of (market_by rule t) i)

-- what a row comes to by a price list, for a guest of this amount, in one step for each station: the best station whose
-- bar its total reaches, by its number from 1, 0 for none; the charge; and the gain by the worths per kWh
unfoldable pub station_from : PriceList → (amount : ℕ) (row : List ℕ) → ℕ
station_from L amount row =
    best (length L.bars) (λ j. get_or L.bars j 0 ≤? get_or row j 0 * amount)
    (λ j. get_or row j 0 * amount - get_or L.prices j 0)

unfoldable pub charge_from : PriceList → (amount : ℕ) (row : List ℕ) → ℕ
charge_from L amount row = at (λ j. get_or L.prices j 0) (station_from L amount row)

unfoldable pub gain_from : PriceList → (amount : ℕ) (worths row : List ℕ) → ℤ
gain_from L amount worths row =
    sub_ℕ (at (λ j. get_or worths j 0 * amount) (station_from L amount row)) (charge_from L amount row)

-- row r of rows of m bids, one after the other; the gains of the first k
unfoldable pub row_in : (m : ℕ) (rows : List ℕ) (r : ℕ) → List ℕ
row_in m rows r = list m (λ j. get_or rows (r * m + j) 0)

unfoldable pub gains_from : PriceList → (amount : ℕ) (worths : List ℕ) (m : ℕ) (rows : List ℕ) (k : ℕ) → List ℤ
gains_from L amount worths m rows k = joined k (λ r. gain_from L amount worths (row_in m rows r) ∷ [])

-- after the market's own checks: the guest's number, the lengths of the lent lists
unfoldable pub list_faults : (n m guest bars prices : ℕ) → List Row
list_faults n m guest bars prices =
    no_such_guest n guest ∷ ((not (bars =? m) or not (prices =? m)) gives 10) ∷ []

-- a call for a guest's price list, by the number of its rule and the lengths of the lists that it is lent
unfoldable pub listing_faults : (rule : ℕ) → Tables → (guest bars prices : ℕ) → List Row
listing_faults rule t guest bars prices =
    unknown_rule rule ∷ market_faults t ++ list_faults (length t.amounts) (length t.asks) guest bars prices

-- the guest's number, worths of m and whole rows, a gain for each row, the prices
unfoldable pub gain_faults : (n m guest : ℕ) (worths rows : List ℕ) (gains : ℕ) → List Row
gain_faults n m guest worths rows gains =
    no_such_guest n guest
    ∷ ((not (length worths =? m) or not (length rows % m =? 0)) gives 5)
    ∷ (not (gains =? length rows / m) gives 10)
    ∷ ((any worths (outside 0 max_price) or any rows (outside 0 max_price)) gives 9)
    ∷ []

-- a call for the gains of rows, by the number of its rule and the length of the list that it is lent
unfoldable pub gaining_faults : (rule : ℕ) → Tables → (guest : ℕ) (worths rows : List ℕ) (gains : ℕ) → List Row
gaining_faults rule t guest worths rows gains =
    unknown_rule rule
    ∷ market_faults t ++ gain_faults (length t.amounts) (length t.asks) guest worths rows gains
