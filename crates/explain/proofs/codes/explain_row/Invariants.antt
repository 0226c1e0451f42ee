use lib.ListN.{length}
use Rattle.explain.specs.Codes.{row_code}
use Rattle.explain.proofs.codes.Codes.{RowSoFar}
use Rattle.explain.proofs.codes.explain_row.Given as goal

-- The loop: the first j places of the row hold the first j codes.
abbrev pub invariant-loop-j : goal.invariant-loop-j
invariant-loop-j l =
    RowSoFar (length l.asks) (row_code l.asks l.row l.amount l.ticket l.cut.0 l.criticals l.bounds) l.initial.codes
    l.codes l.top l.j
