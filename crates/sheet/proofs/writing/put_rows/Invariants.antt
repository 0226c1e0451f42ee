use lib.ListN.{length}
use Rattle.sheet.specs.Laid.{row_of}
use Rattle.sheet.proofs.putting.Puts.{Listed}
use Rattle.sheet.proofs.writing.put_rows.Given as goal

-- The rows of the first i guests are written.
abbrev pub invariant-loop-i : goal.invariant-loop-i
invariant-loop-i l =
    Listed (length l.amounts) (row_of l.amounts l.tickets l.bids l.stations) l.initial.output l.i l.output
