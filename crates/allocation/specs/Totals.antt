-- The totals of one station's guests.
use Rattle.std.specs.Prelude.{ℕ, ◌+◌, ◌*◌, ◌<◌, ◌≤◌, List, ◌≡◌, get_or, length}
use Rattle.model.specs.Limits.{max_price, max_amount}
use Rattle.model.specs.Counting.{◌≤?◌, only, greatest, list}
use Rattle.model.specs.market.Market.{Tables}

-- the greatest total within the limits, and lists of totals up to it
abbrev pub max_total : ℕ
max_total = max_price * max_amount

abbrev pub Totals : List ℕ → Type 0
Totals l = (k : ℕ) → k < length l → get_or l k 0 ≤ max_total

-- bid times amount for a candidate, 0 for whoever is none
unfoldable pub total_for : (bid amount cut : ℕ) → ℕ
total_for bid amount cut = only (cut ≤? bid) (bid * amount)

-- guest i's total at station j of m
abbrev pub total_at : (bids amounts : List ℕ) (m j cut i : ℕ) → ℕ
total_at bids amounts m j cut i = total_for (get_or bids (i * m + j) 0) (get_or amounts i 0) cut

-- n totals f in a list, and the greatest
pub record Gathered (n : ℕ) (f : ℕ → ℕ) (totals : List ℕ) (top : ℕ) : Type 0 where
  pub totals_are : totals ≡ list n f
  pub greatest_is : top ≡ greatest n f

-- the totals of a market's guests at station j
abbrev pub GatheredAt : Tables → (j cut : ℕ) (totals : List ℕ) (top : ℕ) → Type 0
GatheredAt t j cut totals top =
    Gathered (length t.amounts) (total_at t.bids t.amounts (length t.asks) j cut) totals top
