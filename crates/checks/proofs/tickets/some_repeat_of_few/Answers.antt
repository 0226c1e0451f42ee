use Rattle.model.specs.market.Faults.{repeats}
use Rattle.model.proofs.Loops.{folded_end, some_none, some_turn}
use Rattle.checks.specs.Tickets.{stands_before}
use Rattle.checks.proofs.tickets.some_repeat_of_few.Goals as goal

pub loop-k-init : goal.loop-k-init
loop-k-init c = some_none

pub loop-k-preserved : goal.loop-k-preserved
loop-k-preserved c = some_turn c.loop-k.invariant c.loop-k-test.true c.stands_before-found.ensures

pub returns : goal.returns
unfolding repeats stands_before
returns c = folded_end c.loop-k.invariant c.loop-k-test.false
