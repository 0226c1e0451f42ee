use native.Mathlib.Omega.{arith}
use Rattle.model.specs.Limits.{max_account}
use Rattle.model.specs.Counting.{◌<?◌}
use Rattle.model.proofs.Tests.{same_test, lt_yes, is_lt}
use Rattle.ledger.proofs.room.exceeds.Goals as goal

pub returns : goal.returns
unfolding ◌<?◌
returns c =
    same_test _ _ (λ e. is_lt _ _ (omega (arith, lt_yes max_account c.saturating_add.result e)))
    (λ e. is_lt _ _ (omega (arith, lt_yes max_account _ e)))
