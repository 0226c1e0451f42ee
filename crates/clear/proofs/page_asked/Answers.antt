use mathlib.Core.Path.{sym, ◌∙◌}
use Rattle.model.specs.text.Asked.{by_rule}
use Rattle.clear.proofs.Asked.{asks_none, asks_quiet, asks_why, asks_sheet, asks_more, asks_clearing}
use Rattle.clear.proofs.page_asked.Goals as goal

pub returns-then-count-eq0 : goal.returns-then-count-eq0
returns-then-count-eq0 c = asks_none _ _ _ _ c.if-count-eq0.true

-- `--quiet`
pub returns-in_err-rule_asked : goal.returns-in_err-rule_asked
unfolding by_rule
returns-in_err-rule_asked c =
    rw c.from_residual.ensures
    (asks_quiet _ _ _ _ _ _ c.if-count-eq0.false (sym c.spells.ensures ∙ c.if-spells.true) c.in_err-rule_asked.ensures)

pub returns-in_ok-rule_asked : goal.returns-in_ok-rule_asked
unfolding by_rule
returns-in_ok-rule_asked c =
    asks_quiet _ _ _ _ _ _ c.if-count-eq0.false (sym c.spells.ensures ∙ c.if-spells.true) c.in_ok-rule_asked.ensures

-- `--why`
pub returns-in_err-rule_asked-2 : goal.returns-in_err-rule_asked-2
unfolding by_rule
returns-in_err-rule_asked-2 c =
    rw c.from_residual-in_err-rule_asked-2.ensures
    (asks_why _ _ _ _ (sym c.spells.ensures ∙ c.if-spells.false) _ _ c.if-count-eq0.false
    (sym c.spells-else-spells.ensures ∙ c.if-spells-2.true) c.in_err-rule_asked-2.ensures)

pub returns-in_ok-rule_asked-2 : goal.returns-in_ok-rule_asked-2
unfolding by_rule
returns-in_ok-rule_asked-2 c =
    asks_why _ _ _ _ (sym c.spells.ensures ∙ c.if-spells.false) _ _ c.if-count-eq0.false
    (sym c.spells-else-spells.ensures ∙ c.if-spells-2.true) c.in_ok-rule_asked-2.ensures

-- `--write`
pub returns-then-count-ne1 : goal.returns-then-count-ne1
returns-then-count-ne1 c =
    asks_more _ _ _ _ (sym c.spells.ensures ∙ c.if-spells.false)
    (sym c.spells-else-spells.ensures ∙ c.if-spells-2.false) _
    (sym c.spells-else-spells-2.ensures ∙ c.if-spells-3.true) c.if-count-eq0.false c.if-count-ne1.true

pub returns-else-count-ne1 : goal.returns-else-count-ne1
returns-else-count-ne1 c =
    asks_sheet _ _ _ _ (sym c.spells.ensures ∙ c.if-spells.false)
    (sym c.spells-else-spells.ensures ∙ c.if-spells-2.false)
    (sym c.spells-else-spells-2.ensures ∙ c.if-spells-3.true) c.if-count-ne1.false

-- none of them
pub returns-in_err-rule_asked-3 : goal.returns-in_err-rule_asked-3
unfolding by_rule
returns-in_err-rule_asked-3 c =
    rw c.from_residual-in_err-rule_asked-3.ensures
    (asks_clearing _ _ _ _ (sym c.spells.ensures ∙ c.if-spells.false)
    (sym c.spells-else-spells.ensures ∙ c.if-spells-2.false) _ _ c.if-count-eq0.false
    (sym c.spells-else-spells-2.ensures ∙ c.if-spells-3.false) c.in_err-rule_asked-3.ensures)

pub returns-in_ok-rule_asked-3 : goal.returns-in_ok-rule_asked-3
unfolding by_rule
returns-in_ok-rule_asked-3 c =
    asks_clearing _ _ _ _ (sym c.spells.ensures ∙ c.if-spells.false)
    (sym c.spells-else-spells.ensures ∙ c.if-spells-2.false) _ _ c.if-count-eq0.false
    (sym c.spells-else-spells-2.ensures ∙ c.if-spells-3.false) c.in_ok-rule_asked-3.ensures
