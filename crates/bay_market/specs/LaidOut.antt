-- The records of what is told, laid out over the first places of three lists.
use Rattle.std.specs.Prelude.{ℕ, ◌≤◌, ◌<◌, List, ◌≡◌, get_or, length}
use Rattle.model.specs.Numbers.{station_of, charge_of, loss_of}
use Rattle.model.specs.market.Reasons.{OutcomeTable}
use Rattle.explain.specs.Outcomes.{record_at}
use Rattle.explain.specs.declared.explained.OutcomeArrays.{OutcomeArrays}

-- f at each of the first n places, and the rest as it was
pub record FirstPlaces (n : ℕ) (f : ℕ → ℕ) (entry exit : List ℕ) : Type 0 where
  pub same : length exit ≡ length entry
  pub done : (k : ℕ) → k < n → get_or exit k 0 ≡ f k
  pub left : (k : ℕ) → n ≤ k → get_or exit k 0 ≡ get_or entry k 0

pub record LaidOut (e : OutcomeArrays) (entry exit : OutcomeTable) : Type 0 where
  pub stations_are :
      FirstPlaces e.guests (λ i. station_of (record_at e i).result) entry.stations exit.stations
  pub charges_are : FirstPlaces e.guests (λ i. charge_of (record_at e i).result) entry.charges exit.charges
  pub reasons_are : FirstPlaces e.guests (λ i. loss_of (record_at e i).result) entry.reasons exit.reasons
