-- The least charges, and the charges of those who chose a station.
use Rattle.std.specs.Prelude.{ℕ, ◌*◌, ◌<◌, ◌≤◌, max, List, ◌≡◌, get_or, length}
use Rattle.model.specs.Limits.{max_stations}
use Rattle.model.specs.Counting.{◌<?◌, only, list}

-- cut times guest i's amount, the least charge
abbrev pub least_at : (amounts : List ℕ) (cut i : ℕ) → ℕ
least_at amounts cut i = cut * get_or amounts i 0

-- what charging asks of its lists: numbers of stations, and a critical total for each
pub record Chargeable (chosen least criticals stations charges : List ℕ) : Type 0 where
  pub least_long : length least ≡ length chosen
  pub stations_long : length stations ≡ length chosen
  pub charges_long : length charges ≡ length chosen
  pub numbers : (k : ℕ) → k < length chosen → get_or chosen k 0 ≤ max_stations
  pub criticals_long : max_stations < length criticals

-- guest i's charge at the station chosen, 0 for none
unfoldable pub charged_at : (chosen least criticals : List ℕ) → ℕ → ℕ
charged_at chosen least criticals i =
    only (0 <? get_or chosen i 0) (max (get_or least i 0) (get_or criticals (get_or chosen i 0) 0))

pub record Charged (chosen least criticals stations charges : List ℕ) : Type 0 where
  pub stations_are : stations ≡ chosen
  pub charges_are : charges ≡ list (length chosen) (charged_at chosen least criticals)
