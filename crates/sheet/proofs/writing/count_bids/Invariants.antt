use lib.ListN.{length, get_or}
use Rattle.model.specs.Counting.{◌<?◌, count}
use Rattle.model.proofs.Loops.{Folded}
use Rattle.sheet.proofs.writing.count_bids.Given as goal

abbrev pub invariant-loop-bid : goal.invariant-loop-bid
invariant-loop-bid l = Folded count (length l.bids) (λ k. 0 <? get_or l.bids k 0) l.n l.bid-index
