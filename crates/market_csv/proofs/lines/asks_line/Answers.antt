use Rattle.std.proofs.Common.{arith}
use Rattle.std.proofs.lemmas.Result.{err_from_is_err_and}
use Rattle.market_csv.specs.Rows.{AsksRead}
use Rattle.market_csv.proofs.Asking.{asking_none, ask_fault, late_ask, empty_ask, asking_turn, asks_end}
use Rattle.market_csv.proofs.lines.asks_line.Goals as goal

pub loop-j-init : goal.loop-j-init
loop-j-init c = asking_none _ _ c.requires

-- a fault of the field
pub returns-in_err-field-clause-read : goal.returns-in_err-field-clause-read
unfolding AsksRead
returns-in_err-field-clause-read c =
    let p = err_from_is_err_and c.from_residual.result c.from_residual.ensures.1 in
    rw (p.1, p.2) (ask_fault c.loop-j.invariant _ _ c.in_err-field.ensures.read)

-- a comma after the 40th ask
pub returns-then-field-j-clause-read : goal.returns-then-field-j-clause-read
unfolding AsksRead
returns-then-field-j-clause-read c = late_ask c.loop-j.invariant _ _ c.in_ok-field.ensures.read c.if-field-j.true

-- an empty ask
pub returns-then-field-clause-read : goal.returns-then-field-clause-read
unfolding AsksRead
returns-then-field-clause-read c =
    empty_ask c.loop-j.invariant _ _ c.in_ok-field.ensures.read c.if-field-j.false c.if-field.true

-- a line end after an ask
pub returns-then-field-2-clause-read : goal.returns-then-field-2-clause-read
unfolding AsksRead
returns-then-field-2-clause-read c =
    rw c.number_of.ensures
    (asks_end c.loop-j.invariant _ _ c.in_ok-field.ensures.read c.if-field.false c.if-field-2.true (omega arith))

-- a comma after an ask
pub loop-j-preserved : goal.loop-j-preserved
loop-j-preserved c =
    rw c.number_of.ensures
    (asking_turn c.loop-j.invariant _ _ c.in_ok-field.ensures.read c.if-field-j.false c.if-field.false
    c.if-field-2.false (omega arith))
