use lib.ListN.{length}
use Rattle.model.proofs.Tables.{RowsWritten}
use Rattle.marking.proofs.places.Places.{place_at}
use Rattle.marking.proofs.places.place_rows.Given as goal

-- The loop: the rows of the first i guests are written.
abbrev pub invariant-loop-i : goal.invariant-loop-i
invariant-loop-i l =
    RowsWritten (length l.market.amounts) (length l.market.asks) (place_at l.market l.cut.0) l.initial.places l.places
    l.i
