use Rattle.market_csv.specs.Parses.{GuestsDue}
use Rattle.market_csv.proofs.Guesting.{Guesting}
use Rattle.market_csv.proofs.parsing.guest_lines.Given as goal

-- The loop: the lines of the guests passed are in the tables, and the reader is at the start of the next line.
abbrev pub invariant-loop-i : goal.invariant-loop-i
invariant-loop-i l =
    GuestsDue l.fn.reader l.stations → Guesting l.fn.reader.text l.stations l.fn.own l.own l.reader l.i
