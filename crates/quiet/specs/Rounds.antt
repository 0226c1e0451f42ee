-- What a round's steps see of it.
use Rattle.std.specs.Prelude.{◌≡◌, ℕ, suc, ◌<◌, List, length}
use Rattle.model.specs.market.Market.{Screened}
use Rattle.allocation.specs.Screens.{screened_at}
use Rattle.quiet.specs.Efficient.{of, best_taker}
use Rattle.quiet.specs.Seating.{Seating, HeldIn, Called, Waits}
use Rattle.quiet.specs.declared.round.Round.{Round}

abbrev pub screened : Round → Screened
screened r = screened_at r.market.now r.cut.0

-- candidates hold bays, as the lists have them
abbrev pub HeldAt : Round → Seating → Type 0
HeldAt r R = HeldIn r.market.now r.cut.0 R

-- nobody is in hand
abbrev pub CalledAt : Round → (called : List ℕ) → Seating → Type 0
CalledAt r called R = Called r.market.now r.cut.0 called R

-- guest x has no seat, and station j is the best of those that would take it
pub record BestTaker (r : Round) (R : Seating) (x j : ℕ) : Type 0 where
  pub held_in : HeldAt r R
  pub waits : Waits r.market.now R.chosen x
  pub station : j < length r.market.now.asks
  pub best : best_taker (screened r) (of R.held) (of R.lasts) x ≡ suc j
