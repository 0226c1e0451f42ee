use mathlib.Core.Path.{refl}
use Rattle.model.proofs.Loops.{filled_list}
use Rattle.ledger.specs.Accounts.{plus}
use Rattle.ledger.proofs.accounts.add.Goals as goal

pub returns : goal.returns
unfolding plus
returns c = filled_list _ c.loop-k.invariant refl c.loop-k-test.false
