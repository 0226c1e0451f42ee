use lib.ListN.{length}
use Rattle.sheet.proofs.filling.Rows.{RowsRead}
use Rattle.sheet.proofs.filling.fill_rows.Given as goal

abbrev pub invariant-loop-i : goal.invariant-loop-i
invariant-loop-i l =
    RowsRead l.initial.cursor (length l.initial.amounts) l.stations l.initial.amounts l.initial.tickets l.initial.bids
    l.amounts l.tickets l.bids l.i l.cursor
