-- What the bids of a row are held to, station by station.
use Rattle.std.specs.Prelude.{ℕ, ◌+◌, ◌*◌, ◌%◌, ◌≤◌, ◌<◌, List, [], ◌∷◌, ◌≡◌, ℤ, pos, get_or, length}
use Rattle.model.specs.Limits.{max_price}
use Rattle.model.specs.Counting.{greatest, joined}
use Rattle.menu.specs.Keys.{max_lift, plain_key, key_from}

pub record Holds : Type 0 where
  pub leasts : List ℕ
  pub lifts : List ℕ

-- a plain key of 64 or more is one of a bid that reaches its least
pub record HoldsRows (h : Holds) : Type 0 where
  pub lifts_long : length h.lifts ≡ length h.leasts
  pub leasts_low : (j : ℕ) → j < length h.leasts → get_or h.leasts j 0 ≤ max_price + 1
  pub lifts_low : (j : ℕ) → j < length h.leasts → get_or h.lifts j 0 ≤ max_lift
  pub reached :
      (j bid : ℕ) → j < length h.leasts → bid ≤ max_price → 64 ≤ plain_key (get_or h.lifts j 0) bid
      → get_or h.leasts j 0 ≤ bid

-- a bid for each
pub record Row (h : Holds) (row : List ℕ) : Type 0 where
  pub long : length row ≡ length h.leasts
  pub low : (j : ℕ) → j < length row → get_or row j 0 ≤ max_price

-- its keys
unfoldable pub row_key : Holds → (row : List ℕ) → ℕ → ℕ
row_key h row j = key_from (get_or h.leasts j 0) (get_or h.lifts j 0) (get_or row j 0)

-- k rows of bids, and the gain that each label leads to
pub record Rowed (rows : List ℕ) (h : Holds) (table : List ℤ) (k : ℕ) : Type 0 where
  pub whole : length rows ≡ k * length h.leasts
  pub table_long : length table ≡ 64
  pub bids_low : (q : ℕ) → q < length rows → get_or rows q 0 ≤ max_price

-- the greatest key of row r, and the gain that its label leads to
unfoldable pub top_key : (rows : List ℕ) → Holds → (r : ℕ) → ℕ
top_key rows h r =
    greatest (length h.leasts)
    (λ j. key_from (get_or h.leasts j 0) (get_or h.lifts j 0) (get_or rows (r * length h.leasts + j) 0))

unfoldable pub row_gains : (rows : List ℕ) → Holds → (table : List ℤ) (k : ℕ) → List ℤ
row_gains rows h table k = joined k (λ r. get_or table (top_key rows h r % 64) (pos 0) ∷ [])
