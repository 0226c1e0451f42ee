use Rattle.std.proofs.lemmas.Result.{err_from_is_err_and}
use Rattle.market_csv.proofs.Takes.{take_bad, take_good, take_fault}
use Rattle.market_csv.proofs.reader.Reader.take.Goals as goal

-- A field that is taken, or a fault.
pub returns-in_err-field : goal.returns-in_err-field
returns-in_err-field g c =
    let p = err_from_is_err_and c.from_residual.result c.from_residual.ensures.1 in
    rw (p.1, p.2, ← c.MOST.ensures) (take_fault g.T.Number.number_of _ _ _ c.in_err-field.ensures.read)

pub returns-then-field-last : goal.returns-then-field-last
returns-then-field-last g c =
    rw (← c.MOST.ensures) (take_bad g.T.Number.number_of _ _ _ c.in_ok-field.ensures.read c.if-field-last.true)

pub returns : goal.returns
returns g c =
    rw (← c.MOST.ensures, c.number_of.ensures)
    (take_good g.T.Number.number_of _ _ _ c.in_ok-field.ensures.read c.if-field-last.false)
