use native.Mathlib.Omega.{arith}
use Rattle.model.proofs.Tests.{only_yes, only_no, is_lt, not_lt}
use Rattle.allocation.proofs.holding.credited.Goals as goal

pub returns-then-ticket-bound : goal.returns-then-ticket-bound
returns-then-ticket-bound c = omega (arith, c.add.ensures, only_yes _ 1 (is_lt _ _ c.if-ticket-bound.true))

pub returns-else-ticket-bound : goal.returns-else-ticket-bound
returns-else-ticket-bound c = omega (arith, only_no _ 1 (not_lt _ _ c.if-ticket-bound.false))
