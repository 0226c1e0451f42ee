use Prim.Native.Nat.{◌+◌}
use lib.ListN.{length, get_or}
use Rattle.model.specs.text.Lines.{guest_line}
use Rattle.sheet.proofs.Wrote.{Listing}
use Rattle.report.proofs.lines.guest_lines.Given as goal

abbrev pub invariant-loop-k : goal.invariant-loop-k
invariant-loop-k l =
    Listing (length l.stations) (λ i. guest_line (i + 1) (get_or l.stations i 0) (get_or l.charges i 0)) l.initial.out
    l.at l.k l.out l.p
