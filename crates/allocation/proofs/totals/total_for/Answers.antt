use mathlib.Core.Path.{sym, ◌∙◌}
use Rattle.model.proofs.Compared.{lt_is}
use Rattle.model.proofs.Tests.{lt_yes, lt_no}
use Rattle.allocation.proofs.totals.Totals.{total_yes, total_no}
use Rattle.allocation.proofs.totals.total_for.Goals as goal

pub returns-then-lt : goal.returns-then-lt
returns-then-lt c = total_no _ _ _ (lt_yes _ _ (sym (lt_is _ _) ∙ sym c.lt.ensures ∙ c.if-lt.true))

pub returns-else-lt : goal.returns-else-lt
returns-else-lt c =
    cc (total_yes c.args.bid.0 c.args.amount _ (lt_no _ _ (sym (lt_is _ _) ∙ sym c.lt.ensures ∙ c.if-lt.false)))
