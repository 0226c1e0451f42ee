-- The critical totals by rows of bids.
use Rattle.std.specs.Prelude.{◌≡◌, ℕ, zero, suc, ◌+◌, ◌-◌, ◌*◌, ◌<◌, ◌≤◌, max, List, length}
use Rattle.model.specs.Limits.{max_stations, max_price, max_amount}
use Rattle.model.specs.Counting.{◌≤?◌, only, greatest}
use Rattle.model.specs.clauses.Rows.{row_of}
use Rattle.allocation.specs.Totals.{max_total}
use Rattle.quiet.specs.Efficient.{of}

-- the rank of a bid at station j among its guest's: of two the one of greater rank stands before the other
unfoldable pub rank : (bid j : ℕ) → ℕ
rank bid j = bid * 64 + (63 - j)

-- the least rank at which bids of a row are turned away: above that of its guest's seat, by the seat's number, or that
-- of the cut c where it has none
unfoldable pub least_rank : (row : List ℕ) (c seat : ℕ) → ℕ
least_rank row c zero = c * 64
least_rank row c (suc l) = rank (of row l) l + 1

-- the total of a bid at station j where its rank is not below the least, else 0
unfoldable pub total_from : (least bid j amount : ℕ) → ℕ
total_from least bid j amount = only (least ≤? rank bid j) (bid * amount)

-- what a row of bids makes of each station's critical total
unfoldable pub raised_by : (row : List ℕ) (amount least : ℕ) (criticals : List ℕ) → ℕ → ℕ
raised_by row amount least criticals j = max (of criticals (suc j)) (total_from least (of row j) j amount)

-- guest i's total at station j of m where it was turned away there, were the station open
unfoldable pub passed_at : (amounts bids chosen : List ℕ) (m c i j : ℕ) → ℕ
passed_at amounts bids chosen m c i j =
    let row = row_of bids m (i + 1) in total_from (least_rank row c (of chosen i)) (of row j) j (of amounts i)

-- the greatest of the first n guests' at station j
unfoldable pub passed_over : (amounts bids chosen : List ℕ) (m c n j : ℕ) → ℕ
passed_over amounts bids chosen m c n j = greatest n (λ i. passed_at amounts bids chosen m c i j)

-- at the numbers of the first m stations there is f, and the list is else as it was
pub record Renewed (m : ℕ) (f : ℕ → ℕ) (l₀ l : List ℕ) : Type 0 where
  pub same : length l ≡ length l₀
  pub first : of l 0 ≡ of l₀ 0
  pub stations : (j : ℕ) → j < m → of l (suc j) ≡ f j
  pub others : (j : ℕ) → m ≤ j → of l (suc j) ≡ of l₀ (suc j)

-- a row of bids within the limits
pub record Row (row : List ℕ) : Type 0 where
  pub few : length row ≤ max_stations
  pub bid_most : (j : ℕ) → j < length row → of row j ≤ max_price

-- a row of m bids for each guest, with the number of its seat, and a cut, within the limits
pub record Rows (amounts bids chosen : List ℕ) (m c : ℕ) : Type 0 where
  pub row : (i : ℕ) → i < length amounts → Row (row_of bids m (i + 1))
  pub row_long : (i : ℕ) → i < length amounts → length (row_of bids m (i + 1)) ≡ m
  pub amount_most : (i : ℕ) → i < length amounts → of amounts i ≤ max_amount
  pub cut_most : c ≤ max_price
  pub chosen_long : length chosen ≡ length amounts
  pub seat_most : (i : ℕ) → i < length amounts → of chosen i ≤ m

-- room for the critical totals of m stations, at their numbers: none is beyond the greatest total
pub record Room (m : ℕ) (criticals : List ℕ) : Type 0 where
  pub long : m < length criticals
  pub low : (j : ℕ) → j < m → of criticals (suc j) ≤ max_total
