use mathlib.Core.Path.{◌∙◌}
use Rattle.sheet.specs.Laid.{bid_in}
use Rattle.sheet.proofs.putting.Bytes.{four_bytes}
use Rattle.sheet.proofs.putting.Puts.{put_as, listed_none, listed_more, listed_end, room_next}
use Rattle.sheet.proofs.writing.put_all.Goals as goal

pub loop-bid-init : goal.loop-bid-init
loop-bid-init c = listed_none

pub put-requires : goal.put-requires
unfolding bid_in
put-requires c =
    rw (c.to_le_bytes.ensures ∙ four_bytes _) (room_next c.loop-bid.invariant c.loop-bid-test.true c.requires)

pub loop-bid-preserved : goal.loop-bid-preserved
unfolding bid_in
loop-bid-preserved c =
    listed_more c.loop-bid.invariant c.loop-bid-test.true (put_as c.put.ensures (c.to_le_bytes.ensures ∙ four_bytes _))

pub returns : goal.returns
returns c = listed_end c.loop-bid.invariant c.loop-bid-test.false
