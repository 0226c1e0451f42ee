use mathlib.Core.Path.{refl, ◌∙◌}
use Rattle.model.specs.places.Bids.{guest_cell, station_cell}
use Rattle.model.proofs.Tables.{rows_none}
use Rattle.grid.proofs.rows.Rows.{guest_of, part_long, row_placed, all_placed}
use Rattle.grid.proofs.rows.place_rows.Goals as goal

pub loop-i-init : goal.loop-i-init
loop-i-init c = rows_none c.requires.bids_length

pub place_row-requires : goal.place_row-requires
unfolding guest_cell station_cell
place_row-requires c =
    let within = rw (← c.places.view_is) at c.requires in
    record {
      few = within.stations_most;
      walks_are = c.walks-walks.ensures;
      fall_most = within.fall_most _ c.loop-i-test.true;
      guest_on_grid = within.guest_on_grid _ c.loop-i-test.true;
      seconds_long = within.station_second_length;
      station_on_grid = within.station_on_grid;
      row_long = part_long c.loop-i.bids _ _ c.loop-i.i (c.loop-i.auto.bids ∙ within.bids_length) c.loop-i-test.true;
    }

pub loop-i-preserved : goal.loop-i-preserved
unfolding guest_of guest_cell
loop-i-preserved c =
    rw (← c.places.view_is)
    (row_placed _ (rw (← c.places.view_is) at c.loop-i.invariant) c.loop-i-test.true c.place_row.ensures refl)

pub returns : goal.returns
returns c =
    rw (← c.places.view_is) (all_placed _ (rw (← c.places.view_is) at c.loop-i.invariant) c.loop-i-test.false)
