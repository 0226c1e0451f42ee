use Rattle.std.proofs.Common.{refl, arith}
use Rattle.std.proofs.lemmas.Result.{err_from_is_err_and}
use Rattle.market_csv.specs.Parses.{ParseRead}
use Rattle.market_csv.proofs.Whole.{asks_fault, bays_fault, bays_end, guests_fault, parsed}
use Rattle.market_csv.proofs.parsing.parse.Goals as goal

pub returns-in_err-stations : goal.returns-in_err-stations
unfolding ParseRead
returns-in_err-stations c =
    let p = err_from_is_err_and c.from_residual.result c.from_residual.ensures.1 in
    rw (p.1, p.2) (asks_fault _ _ _ c.new-reader.ensures c.in_err-stations.ensures.read)

pub returns-in_err-row : goal.returns-in_err-row
unfolding ParseRead
returns-in_err-row c =
    let p = err_from_is_err_and c.from_residual-in_err-row.result c.from_residual-in_err-row.ensures.1 in
    rw (p.1, p.2)
    (bays_fault _ _ c.new-reader.ensures c.in_ok-stations.ensures.read _ (omega arith) _ _ _ c.in_err-row.ensures)

pub returns-in_err-guests : goal.returns-in_err-guests
unfolding ParseRead
returns-in_err-guests c =
    let p = err_from_is_err_and c.from_residual-in_err-guests.result c.from_residual-in_err-guests.ensures.1 in
    rw (p.1, p.2)
    (guests_fault _ _ c.new-reader.ensures c.in_ok-stations.ensures.read
    (bays_end _ _ c.new-reader.ensures c.in_ok-stations.ensures.read _ (omega arith) _ _ c.in_ok-row.ensures) _ _ _
    c.in_err-guests.ensures)

pub returns : goal.returns
unfolding ParseRead
returns c =
    parsed _ _ c.new-reader.ensures c.in_ok-stations.ensures.read
    (bays_end _ _ c.new-reader.ensures c.in_ok-stations.ensures.read _ (omega arith) _ _ c.in_ok-row.ensures) _ _ _ _
    (omega arith) refl refl c.in_ok-guests.ensures
