use Rattle.std.proofs.Common.{arith}
use Rattle.std.proofs.lemmas.Result.{err_from_is_err_and}
use Rattle.market_csv.specs.Rows.{RowIs}
use Rattle.market_csv.proofs.Going.{row_fault, row_turn, row_end}
use Rattle.market_csv.proofs.lines.row.Goals as goal

pub returns-in_err-number : goal.returns-in_err-number
unfolding RowIs
returns-in_err-number g c line first ended due =
    let p = err_from_is_err_and c.from_residual.result c.from_residual.ensures.1 in
    rw (p.1, p.2)
    (row_fault g.T.Number.number_of due (c.loop-j.invariant line first ended due) c.loop-j-test.true _ _
    c.in_err-number.ensures)

pub loop-j-preserved : goal.loop-j-preserved
loop-j-preserved g c line first ended due =
    row_turn g.T.Number.number_of due (c.loop-j.invariant line first ended due) c.loop-j-test.true _ _
    c.in_ok-number.ensures (omega arith)

pub returns : goal.returns
unfolding RowIs
returns g c line first ended due =
    row_end g.T.Number.number_of due (c.loop-j.invariant line first ended due) (omega arith)
