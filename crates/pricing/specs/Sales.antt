-- The kWh that stations sold, and what they are paid.
use Rattle.std.specs.Prelude.{ℕ, zero, suc, ◌+◌, ◌*◌, ◌%◌, ◌≤◌, ◌<◌, List, ◌≡◌, get_or, length}
use Rattle.model.specs.Limits.{max_guests, max_stations, max_amount}
use Rattle.model.specs.Counting.{◌=?◌, only, sum, list}

-- the amounts of the guests whose station number is s
unfoldable pub kwh_at : (stations amounts : List ℕ) → ℕ → ℕ
kwh_at stations amounts s = sum (length amounts) (λ k. only (get_or stations k 0 =? s) (get_or amounts k 0))

-- what selling asks of each guest's station number and amount: they are within their limits, so that the sums fit
pub record Sellable (stations amounts : List ℕ) : Type 0 where
  pub stations_long : length stations ≡ length amounts
  pub few : length amounts ≤ max_guests
  pub amounts_low : (k : ℕ) → k < length amounts → get_or amounts k 0 ≤ max_amount
  pub numbers : (k : ℕ) → k < length amounts → get_or stations k 0 ≤ max_stations

-- a table of kWh: guest i's are added at its station number s, or at one of the places past the last number where it
-- has none
abbrev pub slots : ℕ
slots = max_stations + 5

unfoldable pub slot_of : (s i : ℕ) → ℕ
slot_of zero i = max_stations + 1 + i % 4
slot_of (suc s) i = suc s

-- what is added at place p
unfoldable pub kwh_in : (stations amounts : List ℕ) → ℕ → ℕ
kwh_in stations amounts p =
    sum (length amounts) (λ k. only (slot_of (get_or stations k 0) k =? p) (get_or amounts k 0))

-- what each of m stations sold, by the kWh of each station number, and what it is paid
pub record PaidOut (kwh : ℕ → ℕ) (cut m : ℕ) (sold paid : List ℕ) : Type 0 where
  pub sold_are : sold ≡ list m (λ j. kwh (j + 1))
  pub paid_are : paid ≡ list m (λ j. cut * kwh (j + 1))
