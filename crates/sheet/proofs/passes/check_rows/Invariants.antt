use Rattle.sheet.proofs.passes.Rows.{RowsPassed}
use Rattle.sheet.proofs.passes.check_rows.Given as goal

abbrev pub invariant-loop : goal.invariant-loop
invariant-loop l = RowsPassed l.fn.cursor l.stations l.counter l.cursor
