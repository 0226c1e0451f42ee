use Rattle.std.proofs.lemmas.Result.{err_from_is_err_and}
use Rattle.sheet.proofs.Written.{refuses_market, refuses_short, writes}
use Rattle.sheet.proofs.write.Goals as goal

pub returns-in_err-market : goal.returns-in_err-market
returns-in_err-market c =
    let p = err_from_is_err_and c.from_residual.result c.from_residual.ensures.1 in
    rw (p.1, p.2) (refuses_market _ _ _ c.in_err-market.ensures.fault)

pub returns-then-out-sheet_length : goal.returns-then-out-sheet_length
returns-then-out-sheet_length c =
    refuses_short _ _ c.in_ok-market.ensures.fault c.in_ok-market.ensures.same
    (rw c.sheet_length.ensures at c.if-out-sheet_length.true)

pub returns : goal.returns
returns c =
    writes _ _ c.in_ok-market.ensures.fault c.in_ok-market.ensures.same
    (rw c.sheet_length.ensures at c.if-out-sheet_length.false) c.put_sheet.ensures
