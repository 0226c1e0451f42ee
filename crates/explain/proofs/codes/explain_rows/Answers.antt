use native.Mathlib.Omega.{arith}
use lib.ListN.{length-take, length-drop}
use Rattle.model.specs.market.Market.{regular}
use Rattle.model.proofs.Tables.{rows_room}
use Rattle.explain.proofs.codes.Codes.{row_code_is, row_ready, rows_so_far_none, rows_so_far_turn, rows_so_far_end}
use Rattle.explain.proofs.codes.explain_rows.Goals as goal

pub loop-i-init : goal.loop-i-init
loop-i-init c = rows_so_far_none c.requires.stations_len.2 c.requires.stations_len.1

pub explain_row-highest-requires : goal.explain_row-highest-requires
explain_row-highest-requires c =
    let so_far = rw (← c.market.view_is) at c.loop-i.invariant.written in
    row_ready (regular _ _ _ _ _) _ c.market.invariant (rw (← c.market.view_is) at c.requires.bars) _
    c.loop-i-test.true c.row_through_view-row.ensures
    (simp (length-take, length-drop) (omega (arith, rows_room so_far c.loop-i-test.true)))

pub loop-i-preserved : goal.loop-i-preserved
loop-i-preserved c =
    rw (← c.market.view_is)
    (rows_so_far_turn (rw (← c.market.view_is) at c.loop-i.invariant) c.loop-i-test.true
    (omega arith)
    (row_code_is (regular _ _ _ _ _) _ c.market.invariant (rw (← c.market.view_is) at c.requires.bars) _
    c.loop-i-test.true c.row_through_view-row.ensures)
    c.explain_row-highest.ensures c.loss.ensures)

pub returns : goal.returns
returns c =
    rw (← c.market.view_is)
    (rows_so_far_end (rw (← c.market.view_is) at c.loop-i.invariant) c.loop-i-test.false)
