use mathlib.Core.Path.{◌∙◌}
use native.Mathlib.Omega.{arith}
use lib.ListN.{length-take, length-drop}
use Rattle.model.specs.market.Market.{regular}
use Rattle.model.proofs.Tables.{rows_none, rows_room, rows_end}
use Rattle.marking.proofs.places.Places.{row_is_long, row_place_is, row_ready, row_put, table_is}
use Rattle.marking.proofs.places.place_rows.Goals as goal

pub loop-i-init : goal.loop-i-init
loop-i-init c = rows_none c.requires.places_len

pub place_row-requires : goal.place_row-requires
place_row-requires c =
    let so_far = rw (← c.market.view_is) at c.loop-i.invariant in
    row_ready (regular _ _ _ _ _) _ c.market.invariant (rw (← c.market.view_is) at c.requires.barred) _
    c.loop-i-test.true c.row_through_view-row.ensures
    (simp (length-take, length-drop) (omega (arith, rows_room so_far c.loop-i-test.true)))

pub loop-i-preserved : goal.loop-i-preserved
loop-i-preserved c =
    let b = rw (← c.market.view_is) at c.requires.barred in
    let w = c.market.invariant in
    let taken = c.loop-i-test.true in
    let shown = c.row_through_view-row.ensures in
    let wide = row_is_long (regular _ _ _ _ _) _ w b _ taken shown in
    rw (← c.market.view_is)
    (row_put (regular _ _ _ _ _) _ (rw (← c.market.view_is) at c.loop-i.invariant) taken (omega arith)
    (row_place_is (regular _ _ _ _ _) _ w b _ taken shown) (rw wide at c.place_row.ensures))

pub returns : goal.returns
returns c =
    rw (← c.market.view_is)
    (rows_end (rw (← c.market.view_is) at c.loop-i.invariant) c.loop-i-test.false ∙ table_is (regular _ _ _ _ _) _)
