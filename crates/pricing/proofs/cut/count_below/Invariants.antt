use lib.ListN.{length, get_or}
use Rattle.model.specs.Counting.{◌<?◌, count}
use Rattle.model.proofs.Loops.{Folded}
use Rattle.pricing.proofs.cut.count_below.Given as goal

abbrev pub invariant-loop-ask : goal.invariant-loop-ask
invariant-loop-ask l = Folded count (length l.asks) (λ k. get_or l.asks k 0 <? l.x.0) l.n l.ask-index
