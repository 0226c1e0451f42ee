use native.Mathlib.Omega.{arith}
use Rattle.model.proofs.Loops.{filling_end}
use Rattle.sheet.proofs.fields.Moves.{moved_by}
use Rattle.sheet.proofs.filling.fill_all.Goals as goal

pub returns : goal.returns
returns c =
    let i = c.loop-bid.invariant in
    record { moved = moved_by i.moved (omega arith); row_is = filling_end i.filled c.loop-bid-test.false }
