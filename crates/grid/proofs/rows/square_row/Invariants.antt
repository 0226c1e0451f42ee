use lib.ListN.{length}
use Rattle.model.proofs.Loops.{Filling}
use Rattle.grid.specs.Rows.{square_at}
use Rattle.grid.proofs.rows.square_row.Given as goal

-- The first j squared distances stand.
abbrev pub invariant-loop-j : goal.invariant-loop-j
invariant-loop-j l =
    Filling (length l.initial.squares) (square_at l.from l.grid.firsts.now l.grid.seconds.now) l.initial.squares
    l.squares l.j
