use Rattle.std.proofs.Common.{◌-◌, length}
use Rattle.quiet.proofs.service.Service.{AllCalled}
use Rattle.quiet.proofs.service.serve_line.Given as goal

abbrev pub invariant-loop-r : goal.invariant-loop-r
invariant-loop-r l =
    AllCalled l.round.market.now l.round.cut.0 (l.r - length l.round.market.now.amounts) l.called l.seating
