use Rattle.std.proofs.Common.{arith}
use Rattle.market_csv.proofs.Ending.{feeding_over, feeding_here, feeding_not}
use Rattle.market_csv.proofs.reader.feeds.Goals as goal

pub returns-then-text-at : goal.returns-then-text-at
returns-then-text-at c = feeding_over _ _ c.if-text-at.true

pub returns-in-Lf : goal.returns-in-Lf
returns-in-Lf c = feeding_here _ _ _ (omega arith) c.sort.ensures c.in-Lf.is

pub returns-in_default : goal.returns-in_default
returns-in_default c = feeding_not _ _ _ (omega arith) c.in_default.not-Lf c.sort.ensures
