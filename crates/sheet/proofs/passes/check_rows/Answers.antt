use native.Mathlib.Omega.{arith}
use Rattle.std.proofs.lemmas.Result.{err_from_is_err_and}
use Rattle.sheet.proofs.passes.Rows.{rows_start, next_row, row_fault, rows_end}
use Rattle.sheet.proofs.passes.check_rows.Goals as goal

pub loop-init : goal.loop-init
loop-init c = rows_start _ _ c.requires.1

pub returns-in_err-cursor : goal.returns-in_err-cursor
returns-in_err-cursor c =
    let p = err_from_is_err_and c.from_residual.result c.from_residual.ensures.1 in
    rw (p.1, p.2) (row_fault c.loop.invariant c.loop-test.true c.in_err-cursor.ensures)

pub loop-preserved : goal.loop-preserved
loop-preserved c = next_row c.loop.invariant c.in_ok-cursor.ensures

pub returns : goal.returns
returns c = rows_end c.loop.invariant (omega arith)
