use Prim.Native.Nat.{◌+◌, ◌≤◌}
use mathlib.Core.Path.{ap₂, ◌∙◌}
use native.Mathlib.Omega.{arith}
use lib.ListN.{length}
use Rattle.model.specs.sheet.Fields.{map_width}
use Rattle.model.specs.sheet.Layout.{bytes_of}
use Rattle.sheet.specs.Laid.{bid_in, row_map, row_bytes}
use Rattle.model.proofs.sheet.Holds.{bytes_length}
use Rattle.sheet.proofs.Wrote.{room_for_first}
use Rattle.sheet.proofs.putting.Bytes.{two_bytes, four_bytes}
use Rattle.sheet.proofs.putting.Puts.{put_then, put_as, room_then}
use Rattle.sheet.proofs.writing.put_row.Goals as goal

pub put-requires : goal.put-requires
unfolding row_bytes
put-requires c =
    rw (c.to_le_bytes.ensures ∙ two_bytes _) (room_for_first (bytes_of 2 c.args.amount) _ _ c.requires.1)

pub put-requires-2 : goal.put-requires-2
unfolding row_bytes
put-requires-2 c =
    rw (c.to_le_bytes-2.ensures ∙ four_bytes _) (room_for_first (bytes_of 4 c.args.ticket) _ _
    (room_then (put_as c.put.ensures (c.to_le_bytes.ensures ∙ two_bytes _)) _ c.requires.1))

pub put_map-requires : goal.put_map-requires
unfolding row_bytes map_width
put_map-requires c =
    let m = length c.args.row.now in
    let room : c.put-2.new.self.at + length (bytes_of (map_width m) (row_map m (bid_in c.args.row.now)))
    ≤ length c.put-2.new.self.out.now =
    room_for_first (bytes_of (map_width m) _) _ _
    (room_then (put_as c.put-2.ensures (c.to_le_bytes-2.ensures ∙ four_bytes _)) _
    (room_then (put_as c.put.ensures (c.to_le_bytes.ensures ∙ two_bytes _)) _ c.requires.1)) in (
      omega (arith, c.map_width.ensures, c.requires.0),
      omega (arith, room, c.map_width.ensures, bytes_length (map_width m) (row_map m (bid_in c.args.row.now))),
    )

pub put_bids-requires : goal.put_bids-requires
unfolding row_bytes map_width
put_bids-requires c =
    let bytes = ap₂ bytes_of c.map_width.ensures c.row_map-map.ensures in (
      c.requires.0,
      c.row_map-map.ensures,
      room_then (put_as c.put_map.ensures bytes) _
          (room_then (put_as c.put-2.ensures (c.to_le_bytes-2.ensures ∙ four_bytes _)) _
          (room_then (put_as c.put.ensures (c.to_le_bytes.ensures ∙ two_bytes _)) _ c.requires.1)),
    )

pub returns : goal.returns
unfolding row_bytes map_width
returns c =
    let bytes = ap₂ bytes_of c.map_width.ensures c.row_map-map.ensures in
    put_then (put_as c.put.ensures (c.to_le_bytes.ensures ∙ two_bytes _))
    (put_then (put_as c.put-2.ensures (c.to_le_bytes-2.ensures ∙ four_bytes _))
    (put_then (put_as c.put_map.ensures bytes) c.put_bids.ensures))
