use mathlib.Core.Path.{sym, ◌∙◌}
use Rattle.model.proofs.Greater.{greater_mills}
use Rattle.model.proofs.Tests.{only_yes, only_no, is_lt, not_lt}
use Rattle.pricing.proofs.charges.charge_at.Goals as goal

pub returns-then-station-gt0 : goal.returns-then-station-gt0
returns-then-station-gt0 c = greater_mills _ _ c.max.ensures ∙ sym (only_yes _ _ (is_lt _ _ c.if-station-gt0.true))

pub returns-else-station-gt0 : goal.returns-else-station-gt0
returns-else-station-gt0 c = sym (only_no _ _ (not_lt _ _ c.if-station-gt0.false))
