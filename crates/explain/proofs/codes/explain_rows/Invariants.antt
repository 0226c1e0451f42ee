use Rattle.explain.proofs.codes.Codes.{RowsSoFar}
use Rattle.explain.proofs.codes.explain_rows.Given as goal

-- The loop: the rows of the first i guests are written, and their reasons.
abbrev pub invariant-loop-i : goal.invariant-loop-i
invariant-loop-i l = RowsSoFar l.market l.cut.0 l.stations l.initial.codes l.initial.reasons l.codes l.reasons l.i
