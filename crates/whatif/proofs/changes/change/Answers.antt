use Rattle.model.proofs.Tests.{is_eq, not_eq}
use Rattle.whatif.proofs.changes.change.Goals as goal

pub returns-then-k-guest : goal.returns-then-k-guest
returns-then-k-guest c = rw (is_eq _ _ c.if-k-guest.true)

pub returns : goal.returns
returns c = rw (not_eq _ _ c.if-k-guest.false) c.seat_change.ensures
