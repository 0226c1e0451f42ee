use Prim.Native.Nat.{◌+◌, ◌*◌, ◌≤◌}
use native.Mathlib.Nat.{mul-le-mul_right}
use native.Mathlib.Omega.{arith}
use lib.ListN.{length}
use Rattle.model.proofs.clauses.Rows.{row_long}
use Rattle.sheet.proofs.putting.Puts.{listed_none, listed_more, room_next}
use Rattle.sheet.proofs.writing.Rooms.{row_shown}
use Rattle.sheet.proofs.writing.put_rows.Goals as goal

pub loop-i-init : goal.loop-i-init
loop-i-init c = listed_none

pub put_row-requires : goal.put_row-requires
put_row-requires c =
    let whole : (c.loop-i.i + 1) * c.args.stations ≤ length c.args.bids.now =
    omega (arith, c.requires.2, mul-le-mul_right c.args.stations c.loop-i-test.true) in
    let e = c.row_through_view-row.ensures in (
      rw (e, row_long _ _ _ whole) c.requires.0,
      rw (row_shown _ _ _ _ _ whole e) (room_next c.loop-i.invariant c.loop-i-test.true c.requires.3),
    )

pub loop-i-preserved : goal.loop-i-preserved
loop-i-preserved c =
    let whole : (c.loop-i.i + 1) * c.args.stations ≤ length c.args.bids.now =
    omega (arith, c.requires.2, mul-le-mul_right c.args.stations c.loop-i-test.true) in
    let e = c.row_through_view-row.ensures in
    listed_more c.loop-i.invariant c.loop-i-test.true (rw (row_shown _ _ _ _ _ whole e) at c.put_row.ensures)
