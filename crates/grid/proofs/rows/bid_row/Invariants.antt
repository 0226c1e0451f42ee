use lib.ListN.{get_or, length}
use Rattle.model.proofs.Loops.{Filling}
use Rattle.model.specs.places.Bids.{cell, bid_between}
use Rattle.grid.proofs.rows.bid_row.Given as goal

-- The first j bids stand.
abbrev pub invariant-loop-j : goal.invariant-loop-j
invariant-loop-j l =
    Filling (length l.initial.row)
    (λ j. bid_between l.guest.price.0 l.guest.fall.0 l.guest.cell
    (cell (get_or l.grid.firsts.now j 0) (get_or l.grid.seconds.now j 0)))
    l.initial.row l.row l.j
