-- What a mechanism sees of tables at a cut, whichever rule set it.
use Rattle.std.specs.Prelude.{ℕ, ◌*◌, get_or, length}
use Rattle.model.specs.Counting.{◌<?◌, ◌≤?◌, ◌and◌}
use Rattle.model.specs.market.Market.{Tables, bid_at, Screened}

unfoldable pub screened_at : Tables → (cut : ℕ) → Screened
screened_at t c = record {
  guest_count = length t.amounts;
  station_count = length t.asks;
  cut = c;
  bays = λ j. get_or t.bays j 0;
  amount = λ i. get_or t.amounts i 0;
  key = λ i. get_or t.tickets i 0;
  candidate = λ i j. get_or t.asks j 0 <? c and c ≤? bid_at t i j;
  total = λ i j. bid_at t i j * get_or t.amounts i 0;
}
