use mathlib.Core.Path.{sym, ◌∙◌}
use Rattle.clear.proofs.Asked.{all_none, all_csv, all_sheet}
use Rattle.clear.proofs.all_asked.Goals as goal

pub returns-then-count-eq0 : goal.returns-then-count-eq0
returns-then-count-eq0 c = all_none _ _ _ _ c.if-count-eq0.true c.page_asked.ensures

pub returns-then-spells : goal.returns-then-spells
returns-then-spells c =
    all_csv _ _ _ _ _ c.if-count-eq0.false
    (sym c.spells.ensures ∙ c.if-spells.true) c.page_asked-then-spells.ensures

pub returns : goal.returns
returns c =
    all_sheet _ _ _ _ _ c.if-count-eq0.false
    (sym c.spells.ensures ∙ c.if-spells.false) c.page_asked-2.ensures
