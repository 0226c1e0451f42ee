use Rattle.market_csv.specs.Runs.{Running}
use Rattle.market_csv.proofs.reader.Reader.digits.Given as goal

-- The loop: the bytes passed are digits, and value is their number modulo 2^64.
abbrev pub invariant-loop-at : goal.invariant-loop-at
invariant-loop-at l = Running l.self-inside.text.now l.self-inside.at l.value l.at
