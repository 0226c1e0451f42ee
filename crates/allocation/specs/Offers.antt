-- Who wins by the critical total, and one station's offers.
use Rattle.std.specs.Prelude.{ℕ, ◌+◌, ◌-◌, ◌<◌, ◌≤◌, max, Bool, true, false, List, ◌≡◌, get_or, length}
use Rattle.model.specs.Limits.{max_guests}
use Rattle.model.specs.Counting.{◌<?◌, ◌=?◌, ◌and◌, ◌or◌, only, list}
use Rattle.allocation.specs.Totals.{max_total, Totals}

unfoldable pub picked : Bool → ℕ → ℕ → ℕ
picked true a b = a
picked false a b = b

-- a guest of total x and ticket k wins a place: above the critical total t, or at t with a ticket below e
unfoldable pub won_by : (x t k e : ℕ) → Bool
won_by x t k e = t <? x or (x =? t and k <? e)

-- one more than total less charge where a place is won, else 0
unfoldable pub gain_for : Bool → (total charge : ℕ) → ℕ
gain_for won total charge = only won (total - charge + 1)

-- guest i's charge at the station, and gain
unfoldable pub charge_at : (least : List ℕ) (t i : ℕ) → ℕ
charge_at least t i = max (get_or least i 0) t

unfoldable pub gain_at : (totals tickets least : List ℕ) (t e i : ℕ) → ℕ
gain_at totals tickets least t e i =
    gain_for (won_by (get_or totals i 0) t (get_or tickets i 0) e) (get_or totals i 0) (charge_at least t i)

-- what guest i has after the offer: the new value where the gain is greater than before
unfoldable pub taken : (gains : List ℕ) (gain new : ℕ → ℕ) (old : List ℕ) → ℕ → ℕ
taken gains gain new old i = picked (get_or gains i 0 <? gain i) (new i) (get_or old i 0)

-- what an offer asks of its lists, the critical total t and the bound e
pub record Offerable (totals tickets least : List ℕ) (t e : ℕ) (chosen gains : List ℕ) : Type 0 where
  pub few : length totals ≤ max_guests
  pub tickets_long : length tickets ≡ length totals
  pub least_long : length least ≡ length totals
  pub chosen_long : length chosen ≡ length totals
  pub gains_long : length gains ≡ length totals
  pub totals_low : Totals totals
  pub least_low : Totals least
  pub gains_low : (k : ℕ) → k < length gains → get_or gains k 0 ≤ max_total + 1
  pub critical_low : t ≤ max_total
  pub covers : (k : ℕ) → k < length totals → 0 < get_or totals k 0 → get_or least k 0 ≤ get_or totals k 0
  pub no_tie : t ≡ 0 → e ≡ 0

-- the lists after one station's offers: critical total t, bound e, station number s
pub record Offered (totals tickets least : List ℕ) (t e s : ℕ) (chosen₀ gains₀ chosen gains : List ℕ) : Type 0 where
  pub chosen_are : chosen ≡ list (length totals) (taken gains₀ (gain_at totals tickets least t e) (λ _. s) chosen₀)
  pub gains_are :
      gains
      ≡ list (length totals) (taken gains₀ (gain_at totals tickets least t e) (gain_at totals tickets least t e) gains₀)
