use mathlib.Core.Path.{◌∙◌}
use Rattle.model.specs.sheet.Layout.{bytes_of}
use Rattle.sheet.proofs.Wrote.{room_for_first}
use Rattle.sheet.proofs.putting.Bytes.{two_bytes}
use Rattle.sheet.proofs.putting.Puts.{put_then, put_as, room_then}
use Rattle.sheet.proofs.writing.Rooms.{sheet_parts_lem, stations_part}
use Rattle.sheet.proofs.writing.put_market.Goals as goal

pub put-requires : goal.put-requires
put-requires c =
    rw (c.to_le_bytes.ensures ∙ two_bytes _) (room_for_first (bytes_of 2 _) _ _
    (rw (← c.market.view_is, sheet_parts_lem _ _ _ _ _) at c.requires))

pub put-requires-2 : goal.put-requires-2
put-requires-2 c =
    rw (c.to_le_bytes-2.ensures ∙ two_bytes _) (room_for_first (bytes_of 2 _) _ _
    (room_then (put_as c.put.ensures (c.to_le_bytes.ensures ∙ two_bytes _)) _
    (rw (← c.market.view_is, sheet_parts_lem _ _ _ _ _) at c.requires)))

pub put_stations-requires : goal.put_stations-requires
put_stations-requires c = (
  c.market.invariant.shape.bays_length,
  room_for_first (stations_part c.market.inside.asks.now c.market.inside.bays.now) _ _
      (room_then (put_as c.put-2.ensures (c.to_le_bytes-2.ensures ∙ two_bytes _)) _
      (room_then (put_as c.put.ensures (c.to_le_bytes.ensures ∙ two_bytes _)) _
      (rw (← c.market.view_is, sheet_parts_lem _ _ _ _ _) at c.requires))),
)

pub put_rows-requires : goal.put_rows-requires
put_rows-requires c = (
  c.market.invariant.shape.stations_most,
  c.market.invariant.shape.tickets_length,
  c.market.invariant.shape.bids_length,
  room_then c.put_stations.ensures _
      (room_then (put_as c.put-2.ensures (c.to_le_bytes-2.ensures ∙ two_bytes _)) _
      (room_then (put_as c.put.ensures (c.to_le_bytes.ensures ∙ two_bytes _)) _
      (rw (← c.market.view_is, sheet_parts_lem _ _ _ _ _) at c.requires))),
)

pub returns : goal.returns
returns c =
    rw (← c.market.view_is, sheet_parts_lem _ _ _ _ _)
    (put_then (put_as c.put.ensures (c.to_le_bytes.ensures ∙ two_bytes _))
    (put_then (put_as c.put-2.ensures (c.to_le_bytes-2.ensures ∙ two_bytes _))
    (put_then c.put_stations.ensures c.put_rows.ensures)))
