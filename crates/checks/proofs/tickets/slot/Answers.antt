use borrow.Author.Rules.{rules}
use Rattle.checks.specs.Tickets.{slot}
use Rattle.checks.proofs.tickets.slot.Goals as goal

pub returns : goal.returns
returns c = unfold slot in search rules
