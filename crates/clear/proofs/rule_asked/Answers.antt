use mathlib.Core.Path.{sym, ◌∙◌}
use Rattle.clear.proofs.Asked.{none_left, not_two, not_rule, is_rule}
use Rattle.clear.proofs.rule_asked.Goals as goal

pub returns-then-count-eq0 : goal.returns-then-count-eq0
returns-then-count-eq0 c = none_left _ _ _ c.if-count-eq0.true

pub returns-then-count-ne2 : goal.returns-then-count-ne2
returns-then-count-ne2 c = not_two _ _ _ c.if-count-eq0.false c.if-count-ne2.true

pub returns-then-spells : goal.returns-then-spells
returns-then-spells c =
    is_rule _ _ _ c.if-count-ne2.false (sym c.spells.ensures ∙ c.if-spells.true)
    c.rule_spelt.ensures

pub returns : goal.returns
returns c =
    not_rule _ _ _ c.if-count-ne2.false (sym c.spells.ensures ∙ c.if-spells.false)
