use mathlib.Core.Path.{sym, ◌∙◌}
use Rattle.clear.proofs.Asked.{is_one, is_two, is_neither}
use Rattle.clear.proofs.rule_spelt.Goals as goal

pub returns-then-spells : goal.returns-then-spells
returns-then-spells c = is_one _ (sym c.spells.ensures ∙ c.if-spells.true)

pub returns-then-spells-2 : goal.returns-then-spells-2
returns-then-spells-2 c =
    is_two _ (sym c.spells.ensures ∙ c.if-spells.false)
    (sym c.spells-2.ensures ∙ c.if-spells-2.true)

pub returns : goal.returns
returns c =
    is_neither _ (sym c.spells.ensures ∙ c.if-spells.false)
    (sym c.spells-2.ensures ∙ c.if-spells-2.false)
