use Prim.Native.Nat.{◌-◌}
use mathlib.Core.Path.{sym, ap, ◌∙◌}
use native.Mathlib.Omega.{arith}
use Rattle.model.proofs.Tests.{only_yes, only_no, is_lt, not_lt}
use Rattle.allocation.proofs.offers.Bar.to_exceed.Goals as goal

pub returns-then-ticket-self : goal.returns-then-ticket-self
returns-then-ticket-self c =
    c.sub.ensures
    ∙ ap (λ x. c.args.self.critical.0 - x) (sym (only_yes _ 1 (is_lt _ _ c.if-ticket-self.true)))

pub returns-else-ticket-self : goal.returns-else-ticket-self
returns-else-ticket-self c = omega (arith, only_no _ 1 (not_lt _ _ c.if-ticket-self.false))
