use Rattle.std.proofs.Common.{arith}
use Rattle.quiet.proofs.service.Service.{all_called_end}
use Rattle.quiet.proofs.service.serve_line.Goals as goal

pub returns : goal.returns
returns c = all_called_end c.loop-r.invariant (omega (arith, c.loop-r-test.false, c.requires.guest_line.long))
