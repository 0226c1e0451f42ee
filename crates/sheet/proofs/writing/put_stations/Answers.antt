use mathlib.Core.Path.{◌∙◌}
use Rattle.sheet.specs.Laid.{station_of, station_bytes}
use Rattle.model.specs.sheet.Layout.{bytes_of}
use Rattle.sheet.proofs.Wrote.{room_for_first}
use Rattle.sheet.proofs.putting.Bytes.{two_bytes, four_bytes}
use Rattle.sheet.proofs.putting.Puts.{put_then, put_as, listed_none, listed_more, room_next, room_then}
use Rattle.sheet.proofs.writing.put_stations.Goals as goal

pub loop-j-init : goal.loop-j-init
loop-j-init c = listed_none

pub put-requires : goal.put-requires
unfolding station_of station_bytes
put-requires c =
    rw (c.to_le_bytes.ensures ∙ four_bytes _)
    (room_for_first (bytes_of 4 _) _ _ (room_next c.loop-j.invariant c.loop-j-test.true c.requires.1))

pub put-requires-in-loop-j : goal.put-requires-in-loop-j
unfolding station_of station_bytes
put-requires-in-loop-j c =
    rw (c.to_le_bytes-in-loop-j.ensures ∙ two_bytes _)
    (room_then (put_as c.put.ensures (c.to_le_bytes.ensures ∙ four_bytes _)) _
    (room_next c.loop-j.invariant c.loop-j-test.true c.requires.1))

pub loop-j-preserved : goal.loop-j-preserved
unfolding station_of station_bytes
loop-j-preserved c =
    listed_more c.loop-j.invariant c.loop-j-test.true
    (put_then (put_as c.put.ensures (c.to_le_bytes.ensures ∙ four_bytes _))
    (put_as c.put-in-loop-j.ensures (c.to_le_bytes-in-loop-j.ensures ∙ two_bytes _)))
