use lib.ListN.{length, get_or}
use Rattle.model.specs.Counting.{greatest}
use Rattle.model.proofs.Loops.{Folded}
use Rattle.pricing.specs.CutAsk.{eligible}
use Rattle.pricing.proofs.cut.cut.Given as goal

abbrev pub invariant-loop-ask : goal.invariant-loop-ask
invariant-loop-ask l =
    Folded greatest (length l.asks) (λ j. eligible l.asks l.position (get_or l.asks j 0)) l.r.0 l.ask-index
