use Rattle.std.proofs.Common.{arith}
use Rattle.model.proofs.Naming.{names_median, names_two_thirds, names_none}
use Rattle.model.proofs.rule.RuleTryFromU8.try_from.Goals as goal

pub returns-in-1 : goal.returns-in-1
returns-in-1 c = names_median _ c.in-1.is

pub returns-in-2 : goal.returns-in-2
returns-in-2 c = names_two_thirds _ c.in-2.is

pub returns-in_default : goal.returns-in_default
returns-in_default c = names_none _ (λ e. omega arith) (λ e. omega arith)
