-- The assignment after all stations.
use Rattle.std.specs.Prelude.{ℕ, List, ◌≡◌, length}
use Rattle.model.specs.market.Market.{Tables}
use Rattle.model.specs.market.Outcome.{Outcome}

-- a list of stations and one of charges, as long as there are guests
abbrev pub GuestLists : Tables → (stations charges : List ℕ) → Type 0
GuestLists t stations charges = (length stations ≡ length t.amounts) × (length charges ≡ length t.amounts)

-- every guest's station and charge, in a market that comes to this outcome
pub record Assigned (o : Outcome) (stations charges : List ℕ) : Type 0 where
  pub stations_are : stations ≡ o.results.stations
  pub charges_are : charges ≡ o.results.charges
