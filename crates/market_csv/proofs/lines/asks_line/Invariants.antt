use Rattle.market_csv.proofs.Asking.{Asking}
use Rattle.market_csv.proofs.lines.asks_line.Given as goal

-- The loop: fewer than 40 asks are passed, each in its place.
abbrev pub invariant-loop-j : goal.invariant-loop-j
invariant-loop-j l = Asking l.fn.reader.text l.asks l.reader l.j
