use borrow.Author.Rules.{rules}
use Rattle.checks.proofs.tickets.Tickets.{scanned_none, unseen, scanned_turn, scanned_end}
use Rattle.checks.proofs.tickets.some_repeat.Goals as goal

pub loop-k-init : goal.loop-k-init
loop-k-init c = scanned_none (search rules)

pub repeats_at-found-requires : goal.repeats_at-found-requires
repeats_at-found-requires c = (c.loop-k-test.true, unseen c.loop-k.invariant c.slot-s.ensures.0)

pub loop-k-preserved : goal.loop-k-preserved
loop-k-preserved c =
    scanned_turn c.loop-k.invariant c.loop-k-test.true c.slot-s.ensures.0
    c.slot-s.ensures.1 c.repeats_at-found.ensures

pub returns : goal.returns
returns c = scanned_end c.loop-k.invariant c.loop-k-test.false
