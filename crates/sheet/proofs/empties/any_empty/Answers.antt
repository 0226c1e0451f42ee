use native.Mathlib.Omega.{arith}
use Rattle.sheet.proofs.empties.Scans.{scanned_none, scanned_more}
use Rattle.sheet.proofs.empties.any_empty.Goals as goal

pub loop-init : goal.loop-init
loop-init c = scanned_none _

pub loop-preserved : goal.loop-preserved
loop-preserved c = scanned_more c.loop.invariant 4 _ c.any_of-found.ensures (omega arith)

pub loop-2-preserved : goal.loop-2-preserved
loop-2-preserved c = scanned_more c.loop-2.invariant 1 _ c.any_of-found-in-loop-2.ensures (omega arith)
