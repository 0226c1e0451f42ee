-- An accepted market at its cut, and the choices after some stations.
use Rattle.std.specs.Prelude.{ℕ, zero, suc, ◌+◌, ◌≤◌, ◌<◌, Bool, true, false, List, ◌≡◌, get_or, length}
use Rattle.model.specs.Limits.{max_stations, max_price}
use Rattle.model.specs.Counting.{◌<?◌, only, list}
use Rattle.model.specs.market.Market.{Tables, Screened, queue, provisional, critical}
use Rattle.model.specs.market.Mechanism.{at, best, surplus}
use Rattle.allocation.specs.Screens.{screened_at}
use Rattle.allocation.specs.Offers.{won_by}
use Rattle.allocation.specs.Totals.{max_total, total_at}
use Rattle.pricing.specs.Charges.{least_at}

-- a cut within the limits, and a market's least charges at it
pub record AtCut (t : Tables) (c : ℕ) (least : List ℕ) : Type 0 where
  pub cut_low : c ≤ max_price
  pub least_are : least ≡ list (length t.amounts) (least_at t.amounts c)

-- guest i's station among the first j, and one more than the surplus there; 0 for none
unfoldable pub station_by : Screened → (j i : ℕ) → ℕ
station_by S j i = best j (λ k. provisional (queue S k) i) (surplus S i)

unfoldable pub gain_by : Screened → (j i : ℕ) → ℕ
gain_by S j i = at (λ k. surplus S i k + 1) (station_by S j i)

-- the critical total of station number s where it is among the first j, else 0; number 0 is no station
unfoldable pub critical_by : Screened → (j s : ℕ) → ℕ
critical_by S j zero = 0
critical_by S j (suc k) = only (k <? j) (critical (queue S k))

-- after the first j stations: the choices and gains of n guests, and the critical total of each station number
pub record After (S : Screened) (n j : ℕ) (chosen gains criticals : List ℕ) : Type 0 where
  pub chosen_are : chosen ≡ list n (station_by S j)
  pub gains_are : gains ≡ list n (gain_by S j)
  pub gains_low : (k : ℕ) → k < n → get_or gains k 0 ≤ max_total + 1
  pub criticals_are : criticals ≡ list (max_stations + 1) (critical_by S j)

-- of a market's guests
abbrev pub AfterIn : Tables → (c j : ℕ) (chosen gains criticals : List ℕ) → Type 0
AfterIn t c j chosen gains criticals = After (screened_at t c) (length t.amounts) j chosen gains criticals

-- the table of totals after a turn: those gathered where the station is open, else as it was; and after the first j
unfoldable pub gathered_if : Bool → (gathered entry : List ℕ) → List ℕ
gathered_if true gathered entry = gathered
gathered_if false gathered entry = entry

unfoldable pub turn_totals : (t : Tables) (c j : ℕ) (entry : List ℕ) → List ℕ
turn_totals t c j entry =
    gathered_if (get_or t.asks j 0 <? c)
    (list (length t.amounts) (total_at t.bids t.amounts (length t.asks) j c)) entry

unfoldable pub totals_after : (t : Tables) (c j : ℕ) (entry : List ℕ) → List ℕ
totals_after t c zero entry = entry
totals_after t c (suc j) entry = turn_totals t c j (totals_after t c j entry)

-- what the first j turns leave in the lent tables, of which the totals were totals₀
pub record Turned (t : Tables) (c j : ℕ) (totals₀ totals chosen gains criticals : List ℕ) : Type 0 where
  pub after : AfterIn t c j chosen gains criticals
  pub totals_are : totals ≡ totals_after t c j totals₀

-- after the first j stations: a bound for the ties of each station number. A candidate holds a place exactly where it
-- wins by the critical total and that bound
pub record Bounded (S : Screened) (n j : ℕ) (bounds : List ℕ) : Type 0 where
  pub bounds_long : length bounds ≡ max_stations + 1
  pub wins :
      (i k : ℕ) → i < n → k < j → S.candidate i k ≡ true
      → won_by (S.total i k) (critical (queue S k)) (S.key i) (get_or bounds (suc k) 0) ≡ provisional (queue S k) i

-- of a market's guests
abbrev pub BoundedIn : Tables → (c j : ℕ) (bounds : List ℕ) → Type 0
BoundedIn t c j bounds = Bounded (screened_at t c) (length t.amounts) j bounds

-- before the first station: no station number has a critical total
abbrev pub NoCriticals : List ℕ → Type 0
NoCriticals criticals = criticals ≡ list (max_stations + 1) (λ _. 0)

-- and each has room for a bound
abbrev pub EmptyBars : (criticals bounds : List ℕ) → Type 0
EmptyBars criticals bounds = NoCriticals criticals × (length bounds ≡ max_stations + 1)

-- after the last station: the critical total and the bound of each station number, by which its places are won
pub record Bars (t : Tables) (c : ℕ) (criticals bounds : List ℕ) : Type 0 where
  pub bounded : BoundedIn t c (length t.asks) bounds
  pub criticals_are : criticals ≡ list (max_stations + 1) (critical_by (screened_at t c) (length t.asks))
