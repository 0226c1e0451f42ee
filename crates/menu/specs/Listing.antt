-- A guest's bar and price at a station of a market at a cut.
use Rattle.std.specs.Prelude.{ℕ, ◌+◌, ◌*◌, ◌≤◌, ◌<◌, max, cond, List, ◌≡◌, get_or, length}
use Rattle.model.specs.Limits.{max_price}
use Rattle.model.specs.Counting.{◌<?◌, only}
use Rattle.model.specs.market.Market.{Tables, queue, critical}
use Rattle.model.specs.market.Menus.{rivals, loses_tie, no_bar}
use Rattle.allocation.specs.Screens.{screened_at}

unfoldable pub bar_at : Tables → (c i j : ℕ) → ℕ
bar_at t c i j =
    let Q = queue (screened_at t c) j in
    cond (get_or t.asks j 0 <? c)
    (max (c * get_or t.amounts i 0) (critical (rivals Q i) + only (loses_tie Q i) 1)) no_bar

unfoldable pub price_at : Tables → (c i j : ℕ) → ℕ
price_at t c i j =
    only (get_or t.asks j 0 <? c) (max (c * get_or t.amounts i 0) (critical (rivals (queue (screened_at t c) j) i)))

-- station j is open at the cut c, i is a guest, and there is room for the totals
pub record Stated (t : Tables) (c i j : ℕ) (totals : List ℕ) : Type 0 where
  pub cut_low : c ≤ max_price
  pub is_open : get_or t.asks j 0 < c
  pub guest : i < length t.amounts
  pub station : j < length t.asks
  pub room : length totals ≡ length t.amounts
