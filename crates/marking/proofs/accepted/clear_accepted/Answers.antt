use Prim.Native.Nat.{ℕ, ◌+◌}
use lib.ListN.{length-replicate}
use Rattle.model.specs.Limits.{max_stations}
use Rattle.model.specs.market.Market.{regular}
use Rattle.model.proofs.Loops.{zeros}
use Rattle.marking.proofs.Answers.{fully_clears, has_bars}
use Rattle.marking.proofs.places.Places.{barred}
use Rattle.marking.proofs.accepted.clear_accepted.Goals as goal

pub clear_with_bars-figures-requires-clause-criticals_value :
    goal.clear_with_bars-figures-requires-clause-criticals_value
clear_with_bars-figures-requires-clause-criticals_value c =
    (zeros (max_stations + 1), length-replicate {A = ℕ} (max_stations + 1) 0)

pub place_rows-requires-clause-barred : goal.place_rows-requires-clause-barred
place_rows-requires-clause-barred c =
    let b = has_bars (rw (← c.market.view_is) at c.clear_with_bars-figures.ensures.bars) in
    rw (← c.market.view_is) (barred (regular _ _ _ _ _) _ c.market.invariant b c.give_bars.ensures)

pub returns : goal.returns
returns c =
    let cleared = c.clear_with_bars-figures.ensures in
    fully_clears _ _ _ (rw c.market.view_is at c.market.invariant) cleared.clears cleared.cut (has_bars cleared.bars)
    c.place_rows.ensures c.requires.floors_long c.give_floors.ensures
