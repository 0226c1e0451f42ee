use Prim.Native.Nat.{◌+◌}
use lib.ListN.{get_or}
use Rattle.model.proofs.Loops.{Filled}
use Rattle.ledger.proofs.accounts.add.Given as goal

abbrev pub invariant-loop-k : goal.invariant-loop-k
invariant-loop-k l =
    Filled (λ x. get_or l.initial.accounts x 0 + get_or l.charges x 0) l.initial.accounts l.accounts l.k
