use Rattle.grid.proofs.rows.Rows.{RowsPlaced}
use Rattle.grid.proofs.rows.place_rows.Given as goal

-- The rows of the first i guests are written.
abbrev pub invariant-loop-i : goal.invariant-loop-i
invariant-loop-i l = RowsPlaced l.places l.initial.bids l.bids l.i
