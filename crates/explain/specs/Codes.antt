-- What the functions that write codes promise each other. Nothing that the export promises depends on this file.
use Rattle.std.specs.Prelude.{ℕ, ◌+◌, ◌*◌, ◌≤◌, ◌<◌, Bool, cond, List, ◌≡◌, get_or, length}
use Rattle.model.specs.Limits.{max_stations, max_price, max_amount}
use Rattle.model.specs.Counting.{◌<?◌, ◌=?◌, only, greatest, list, joined}
use Rattle.model.specs.market.Market.{Tables, bid_at, queue, provisional}
use Rattle.allocation.specs.Offers.{won_by}
use Rattle.allocation.specs.Screens.{screened_at}
use Rattle.allocation.specs.Totals.{max_total}

-- the code of a bid at a station with this ask: `won` says whether a candidate there holds a place
unfoldable pub code_by : (bid ask cut : ℕ) (won : Bool) → ℕ
code_by bid ask cut won = cond (bid =? 0) 1 (cond (ask <? cut) (cond (bid <? cut) 3 (cond won 0 4)) 2)

-- of guest i and station j at a cut
unfoldable pub code_at : Tables → (cut i j : ℕ) → ℕ
code_at t c i j = code_by (bid_at t i j) (get_or t.asks j 0) c (provisional (queue (screened_at t c) j) i)

-- the same from the station's critical total and tie bound, for a guest with this row of bids
unfoldable pub row_code : (asks row : List ℕ) (amount ticket cut : ℕ) (criticals bounds : List ℕ) (j : ℕ) → ℕ
row_code asks row amount ticket cut criticals bounds j =
    code_by (get_or row j 0) (get_or asks j 0) cut
    (won_by (get_or row j 0 * amount) (get_or criticals (j + 1) 0) ticket (get_or bounds (j + 1) 0))

-- what a row of codes is written from, and a place for each
pub record RowReady (asks row : List ℕ) (amount : ℕ) (criticals bounds codes : List ℕ) : Type 0 where
  pub few : length asks ≤ max_stations
  pub row_long : length row ≡ length asks
  pub bids_low : (j : ℕ) → j < length asks → get_or row j 0 ≤ max_price
  pub amount_low : amount ≤ max_amount
  pub criticals_long : length criticals ≡ max_stations + 1
  pub bounds_long : length bounds ≡ max_stations + 1
  pub criticals_low : (j : ℕ) → j < length asks → get_or criticals (j + 1) 0 ≤ max_total
  pub codes_long : length codes ≡ length asks

-- all codes at a cut, and the reasons of guests with these stations
pub record CodesAtCut (t : Tables) (c : ℕ) (stations codes reasons : List ℕ) : Type 0 where
  pub codes_are : codes ≡ joined (length t.amounts) (λ i. list (length t.asks) (code_at t c i))
  pub reasons_are :
      reasons
      ≡ list (length t.amounts)
      (λ i. only (get_or stations i 0 =? 0) (greatest (length t.asks) (code_at t c i)))
