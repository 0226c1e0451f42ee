use Rattle.quiet.proofs.service.Service.{call_waits}
use Rattle.quiet.proofs.service.call_up.Goals as goal

pub serve-requires-clause-waits : goal.serve-requires-clause-waits
serve-requires-clause-waits c = call_waits _ c.requires.called c.requires.x_in_bounds c.if-called-x-eq0.true
