use Rattle.std.proofs.Common.{sym, ◌∙◌, arith}
use Rattle.model.proofs.Compared.{lt_is}
use Rattle.model.proofs.Tests.{only_yes, only_no}
use Rattle.quiet.proofs.standing.Standing.{passes}
use Rattle.quiet.proofs.criticals.if_open.Goals as goal

pub returns-then-lt : goal.returns-then-lt
returns-then-lt c = (sym (only_yes _ _ (passes (c.lt.ensures ∙ lt_is _ _) c.if-lt.true)), omega arith)

pub returns-else-lt : goal.returns-else-lt
returns-else-lt c = (sym (only_no _ _ (passes (c.lt.ensures ∙ lt_is _ _) c.if-lt.false)), omega arith)
