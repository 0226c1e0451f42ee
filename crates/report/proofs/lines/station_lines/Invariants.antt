use Prim.Native.Nat.{◌+◌}
use lib.ListN.{length, get_or}
use Rattle.model.specs.text.Lines.{station_line}
use Rattle.sheet.proofs.Wrote.{Listing}
use Rattle.report.proofs.lines.station_lines.Given as goal

abbrev pub invariant-loop-k : goal.invariant-loop-k
invariant-loop-k l =
    Listing (length l.sold) (λ i. station_line (i + 1) (get_or l.sold i 0) (get_or l.paid i 0)) l.initial.out
    l.at l.k l.out l.p
