-- What the functions that write places promise each other. Nothing that `clear_marked` or `mark` promises depends on
-- this file.
use Rattle.std.specs.Prelude.{ℕ, ◌+◌, ◌*◌, ◌≤◌, ◌<◌, not, cond, List, ◌≡◌, get_or, length}
use Rattle.model.specs.Limits.{max_stations, max_price, max_amount}
use Rattle.model.specs.Counting.{◌<?◌, ◌and◌, only}
use Rattle.model.specs.market.Market.{Tables, bid_at, queue, provisional}
use Rattle.allocation.specs.Offers.{won_by}
use Rattle.allocation.specs.Screens.{screened_at}
use Rattle.allocation.specs.Totals.{max_total}

-- what a total is held to at a station with this ask: its critical total, and past every total where it is not open
unfoldable pub bar_by : (ask cut critical : ℕ) → ℕ
bar_by ask cut critical = cond (ask <? cut) critical (max_total + 1)

-- of station j, from the critical totals of the station numbers
unfoldable pub bar_at : (asks : List ℕ) (cut : ℕ) (criticals : List ℕ) (j : ℕ) → ℕ
bar_at asks cut criticals j = bar_by (get_or asks j 0) cut (get_or criticals (j + 1) 0)

-- 1 for a place held, else 0
unfoldable pub place_by : (bid amount ticket cut bar bound : ℕ) → ℕ
place_by bid amount ticket cut bar bound = only (won_by (bid * amount) bar ticket bound and not (bid <? cut)) 1

unfoldable pub row_place : (row : List ℕ) (amount ticket cut : ℕ) (bars bounds : List ℕ) (j : ℕ) → ℕ
row_place row amount ticket cut bars bounds j =
    place_by (get_or row j 0) amount ticket cut (get_or bars j 0) (get_or bounds (j + 1) 0)

-- what a row of places is written from, and room for each
pub record RowReady (row : List ℕ) (amount : ℕ) (bars bounds places : List ℕ) : Type 0 where
  pub few : length row ≤ max_stations
  pub bids_low : (j : ℕ) → j < length row → get_or row j 0 ≤ max_price
  pub amount_low : amount ≤ max_amount
  pub bars_long : length bars ≡ length row
  pub bars_low : (j : ℕ) → j < length row → get_or bars j 0 ≤ max_total + 1
  pub bounds_long : length bounds ≡ max_stations + 1
  pub places_long : length places ≡ length row

-- bars and tie bounds by which places are held at a cut
pub record Barred (t : Tables) (c : ℕ) (bars bounds : List ℕ) : Type 0 where
  pub bars_long : length bars ≡ length t.asks
  pub bars_low : (j : ℕ) → j < length t.asks → get_or bars j 0 ≤ max_total + 1
  pub bounds_long : length bounds ≡ max_stations + 1
  pub places_are :
      (i j : ℕ) → i < length t.amounts → j < length t.asks
      → place_by (bid_at t i j) (get_or t.amounts i 0) (get_or t.tickets i 0) c (get_or bars j 0)
      (get_or bounds (j + 1) 0)
      ≡ only (provisional (queue (screened_at t c) j) i) 1
