use mathlib.Core.Path.{sym, ◌∙◌}
use Rattle.model.proofs.Tests.{only_yes, only_no, lt_yes, lt_no, is_le, not_le}
use Rattle.menu.proofs.keys.held.Goals as goal

pub returns-then-below : goal.returns-then-below
returns-then-below c = sym (only_no _ _ (not_le _ _ (lt_yes _ _ (sym c.below.ensures ∙ c.if-below.true))))

pub returns-else-below : goal.returns-else-below
returns-else-below c = sym (only_yes _ _ (is_le _ _ (lt_no _ _ (sym c.below.ensures ∙ c.if-below.false))))
