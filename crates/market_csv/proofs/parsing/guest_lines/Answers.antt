use Rattle.std.proofs.Common.{◌≡◌, arith}
use Rattle.std.proofs.lemmas.Result.{err_from_is_err_and}
use Rattle.model.specs.Limits.{max_guests}
use Rattle.market_csv.specs.Parses.{GuestsIs}
use Rattle.market_csv.proofs.Guesting.{guesting_none, guests_end, guest_fault, guest_turn, too_many_guests}
use Rattle.market_csv.proofs.parsing.guest_lines.Goals as goal

pub loop-i-init : goal.loop-i-init
loop-i-init c due = guesting_none due _

pub returns-then-is_over : goal.returns-then-is_over
unfolding GuestsIs
returns-then-is_over c due = guests_end due _ (c.loop-i.invariant due) (omega arith) c.if-is_over.ensures

pub returns-in_err-guest_line : goal.returns-in_err-guest_line
unfolding GuestsIs
returns-in_err-guest_line c due =
    let p = err_from_is_err_and c.from_residual.result c.from_residual.ensures.1 in
    rw (p.1, p.2)
    (guest_fault due _ (c.loop-i.invariant due) _ _ _ c.loop-i-test.true c.if-is_over.ensures
    c.in_err-guest_line.ensures)

pub loop-i-preserved : goal.loop-i-preserved
loop-i-preserved c due =
    guest_turn due _ (c.loop-i.invariant due) _ _ c.loop-i-test.true c.if-is_over.ensures c.in_ok-guest_line.ensures

pub returns-then-is_over-2 : goal.returns-then-is_over-2
unfolding GuestsIs
returns-then-is_over-2 c due =
    let all : c.loop-i.i ≡ max_guests = omega arith in
    guests_end due _ (rw all at (c.loop-i.invariant due)) (omega arith) c.if-is_over-2.ensures

pub returns : goal.returns
unfolding GuestsIs
returns c due = too_many_guests due _ (c.loop-i.invariant due) (omega arith) c.if-is_over-2.ensures
