use Rattle.std.proofs.Common.{suc, arith}
use Rattle.std.proofs.lemmas.Result.{err_from_is_err_and}
use Rattle.model.proofs.market.Acceptance.{product_fits}
use Rattle.market_csv.specs.Rows.{GuestIs}
use Rattle.market_csv.proofs.Guests.{ticket_fault, ticketed, amount_fault, amounted, guest_read}
use Rattle.market_csv.proofs.lines.guest_line.Goals as goal

pub returns-in_err-own : goal.returns-in_err-own
unfolding GuestIs
returns-in_err-own c due =
    let p = err_from_is_err_and c.from_residual.result c.from_residual.ensures.1 in
    rw (p.1, p.2) (ticket_fault due _ _ c.in_err-own.ensures)

pub returns-in_err-own-2 : goal.returns-in_err-own-2
unfolding GuestIs
returns-in_err-own-2 c due =
    let p = err_from_is_err_and c.from_residual-in_err-own-2.result c.from_residual-in_err-own-2.ensures.1 in
    rw (p.1, p.2) (amount_fault due _ _ (ticketed due _ _ c.in_ok-own.ensures) _ _ c.in_err-own-2.ensures)

pub returns : goal.returns
returns c due =
    let t = ticketed due _ _ c.in_ok-own.ensures in
    let a = amounted due _ _ t _ _ c.in_ok-own-2.ensures in
    guest_read due _ _ t _ _ _ _ _ c.args.own.now a _ (omega arith) c.row.ensures (omega arith) (omega arith)
    (omega (arith, product_fits (suc c.args.i) c.args.stations due.low due.few)) (omega arith)
