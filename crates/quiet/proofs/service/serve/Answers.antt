use Rattle.std.proofs.Common.{refl}
use Rattle.quiet.proofs.service.Service.{in_hand_turn}
use Rattle.quiet.proofs.service.serve.Goals as goal

pub serve_guest-requires-clause-waits : goal.serve_guest-requires-clause-waits
serve_guest-requires-clause-waits c = c.loop-out.invariant.waits _ refl

pub loop-out-smaller : goal.loop-out-smaller
loop-out-smaller c = c.in-Some.ensures.1.falls _ refl

pub loop-out-preserved : goal.loop-out-preserved
loop-out-preserved c = in_hand_turn _ c.loop-out.invariant c.in-Some.ensures

pub returns : goal.returns
returns c =
    let served = in_hand_turn _ c.loop-out.invariant c.in_default.ensures in (served.held_in, served.served)
