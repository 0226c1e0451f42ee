use mathlib.Core.Path.{sym}
use Rattle.model.proofs.Tests.{only_yes, only_no, is_le, not_le}
use Rattle.menu.specs.Keys.{lift}
use Rattle.menu.proofs.keys.lift.Goals as goal

pub returns-then-least-le-MAX_PRICE : goal.returns-then-least-le-MAX_PRICE
unfolding lift
returns-then-least-le-MAX_PRICE c = sym (only_yes _ _ (is_le _ _ c.if-least-le-MAX_PRICE.true))

pub returns-else-least-le-MAX_PRICE : goal.returns-else-least-le-MAX_PRICE
unfolding lift
returns-else-least-le-MAX_PRICE c = sym (only_no _ _ (not_le _ _ c.if-least-le-MAX_PRICE.false))
