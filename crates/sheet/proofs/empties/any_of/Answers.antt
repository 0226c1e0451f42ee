use Rattle.model.specs.Counting.{◌=?◌}
use Rattle.sheet.proofs.empties.Scans.{scanned_none, scanned_next}
use Rattle.sheet.proofs.empties.any_of.Goals as goal

pub loop-init : goal.loop-init
loop-init g c = scanned_none _

pub loop-preserved : goal.loop-preserved
unfolding ◌=?◌
loop-preserved g c = scanned_next c.loop.invariant c.four-bid.ensures
