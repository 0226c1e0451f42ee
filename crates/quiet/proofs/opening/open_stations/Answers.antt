use Rattle.quiet.proofs.opening.Opening.{open_end}
use Rattle.quiet.proofs.opening.open_stations.Goals as goal

pub returns : goal.returns
returns c = open_end c.loop-j.invariant c.requires c.loop-j-test.false
