use lib.ListN.{length}
use Rattle.model.proofs.Loops.{Filling}
use Rattle.marking.specs.Places.{row_place}
use Rattle.marking.proofs.places.place_row.Given as goal

-- The loop: the first j places of the row are written.
abbrev pub invariant-loop-j : goal.invariant-loop-j
invariant-loop-j l =
    Filling (length l.row) (row_place l.row l.amount l.ticket l.cut.0 l.bars l.bounds) l.initial.places l.places l.j
