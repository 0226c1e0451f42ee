use lib.ListN.{length}
use Rattle.model.proofs.Loops.{Filling}
use Rattle.menu.specs.Listing.{bar_at, price_at}
use Rattle.menu.proofs.listing.list_stations.Given as goal

-- the first j stand in both lists
abbrev pub invariant-loop-j : goal.invariant-loop-j
invariant-loop-j l =
    Filling (length l.market.asks) (bar_at l.market l.cut.0 l.i) l.initial.bars l.bars l.j
    × Filling (length l.market.asks) (price_at l.market l.cut.0 l.i) l.initial.prices l.prices l.j
