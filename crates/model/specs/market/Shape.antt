-- The shape of a market's tables: counts within the limits, and lengths that agree. Document 01, 'A market'.
use Rattle.std.specs.Prelude.{◌*◌, ◌≤◌, ◌≡◌, length}
use Rattle.model.specs.Limits.{max_guests, max_stations}
use Rattle.model.specs.market.Market.{Tables}

pub record Shaped (t : Tables) : Type 0 where
  pub guests_most : length t.amounts ≤ max_guests
  pub stations_least : 1 ≤ length t.asks
  pub stations_most : length t.asks ≤ max_stations
  pub bays_length : length t.bays ≡ length t.asks
  pub tickets_length : length t.tickets ≡ length t.amounts
  pub bids_length : length t.bids ≡ length t.amounts * length t.asks
  pub width_is : t.width ≡ length t.asks
