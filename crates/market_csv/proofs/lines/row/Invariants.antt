use Rattle.std.proofs.Common.{ℕ, length}
use Rattle.market_csv.specs.Rows.{RowDue}
use Rattle.market_csv.proofs.Going.{Along}
use Rattle.market_csv.proofs.lines.row.Given as goal

-- The loop: the numbers passed are in their places, and the reader is after them.
abbrev pub invariant-loop-j : goal.invariant-loop-j
invariant-loop-j g l =
    (line first ended : ℕ) → RowDue l.fn.reader (length l.fn.row) line first ended g.T.Number.MOST l.may_be_empty
    → Along g.T.Number.number_of l.fn.reader.text (length l.fn.row) line first ended l.reader l.row l.j
