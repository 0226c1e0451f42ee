-- Keys by which one maximum finds the best station of a row, with no product of bid and amount. Let a price be
-- quotient times amount plus rest. Of two bids that reach their bars, total less price is the greater where bid less
-- quotient is, and at an equal one where the rest is the smaller.
use Rattle.std.specs.Prelude.{ℕ, ◌+◌, ◌*◌, ◌-◌, ◌/◌, ◌%◌, ◌≤◌, ◌<◌, min}
use Rattle.std.specs.Prelude.{Bool, List, ◌≡◌, ℤ, pos, get_or, length}
use Rattle.std.proofs.Math.IntN.{sub_ℕ}
use Rattle.model.specs.Limits.{max_stations, max_price}
use Rattle.model.specs.Counting.{◌<?◌, ◌≤?◌, ◌=?◌, ◌and◌, ◌or◌, only, count, list}
use Rattle.model.specs.market.Menus.{PriceList}

-- station k of rest a goes before station j of rest b at an equal bid less quotient: by the smaller rest, or the lower
-- number
unfoldable pub rest_before : (a b k j : ℕ) → Bool
rest_before a b k j = a <? b or (a =? b and k <? j)

unfoldable pub goes_before : (prices : List ℕ) (amount k j : ℕ) → Bool
goes_before prices amount k j = rest_before (get_or prices k 0 % amount) (get_or prices j 0 % amount) k j

-- station j's label, from 1 on: one more than how many go after it
unfoldable pub label : (prices : List ℕ) (amount j : ℕ) → ℕ
label prices amount j = count (length prices) (λ k. goes_before prices amount j k) + 1

-- the least bid whose total reaches the bar
unfoldable pub least_bid : (bar amount : ℕ) → ℕ
least_bid bar amount = (bar + (amount - 1)) / amount

-- station j's key in a row: 0 where the bid is below the least
unfoldable pub key : PriceList → (amount : ℕ) (row : List ℕ) (j : ℕ) → ℕ
key L amount row j =
    only (least_bid (get_or L.bars j 0) amount ≤? get_or row j 0)
    (64 * (get_or row j 0 - get_or L.prices j 0 / amount) + label L.prices amount j)

-- ---- as the code has them, in 32 bits: the label by the rests; the least bid, or one above every bid; what is added
-- to 64 times the bid

unfoldable pub label_by : (rests : List ℕ) (j : ℕ) → ℕ
label_by rests j = count (length rests) (λ k. rest_before (get_or rests j 0) (get_or rests k 0) j k) + 1

unfoldable pub least_within : (bar amount : ℕ) → ℕ
least_within bar amount = min (least_bid bar amount) (max_price + 1)

-- none where no bid comes to the bar
unfoldable pub lift : (least price amount label : ℕ) → ℕ
lift least price amount label = only (least ≤? max_price) (64 * (max_price - price / amount) + label)

abbrev pub max_lift : ℕ
max_lift = 64 * max_price + 63

-- what a bid comes to that is not held to its least: 64 or more only where it is above the price's quotient
unfoldable pub plain_key : (lift bid : ℕ) → ℕ
plain_key lift bid = 64 * bid + lift - 64 * max_price

unfoldable pub key_from : (least lift bid : ℕ) → ℕ
key_from least lift bid = only (least ≤? bid) (plain_key lift bid)

-- a guest's amount and its price list, by which rows can be held to keys: no price is above its bar, and where a bid
-- can reach the bar it is the price or one above
pub record Priced (L : PriceList) (amount : ℕ) : Type 0 where
  pub amount_least : 1 ≤ amount
  pub few : length L.prices ≤ max_stations
  pub bars_long : length L.bars ≡ length L.prices
  pub below : (j : ℕ) → j < length L.prices → get_or L.prices j 0 ≤ get_or L.bars j 0
  pub near :
      (j : ℕ) → j < length L.prices → get_or L.bars j 0 ≤ max_price * amount
      → get_or L.bars j 0 ≤ get_or L.prices j 0 + 1

-- the gain at station j by the worth there
unfoldable pub gain_at : (worths prices : List ℕ) (amount j : ℕ) → ℤ
gain_at worths prices amount j = sub_ℕ (get_or worths j 0 * amount) (get_or prices j 0)

-- the labels of the first k stations lead to their gains, and 0 to none
pub record Labelled (worths prices : List ℕ) (amount k : ℕ) (table : List ℤ) : Type 0 where
  pub long : length table ≡ 64
  pub nowhere : get_or table 0 (pos 0) ≡ pos 0
  pub there :
      (j : ℕ) → j < k → get_or table (label prices amount j) (pos 0) ≡ gain_at worths prices amount j

-- what each row is held to
pub record Prepared (L : PriceList) (amount : ℕ) (worths leasts lifts : List ℕ) (table : List ℤ) : Type 0 where
  pub leasts_are : leasts ≡ list (length L.prices) (λ j. least_within (get_or L.bars j 0) amount)
  pub lifts_are :
      lifts
      ≡ list (length L.prices) (λ j. lift (least_within (get_or L.bars j 0) amount) (get_or L.prices j 0) amount
      (label L.prices amount j))
  pub labelled : Labelled worths L.prices amount (length L.prices) table
