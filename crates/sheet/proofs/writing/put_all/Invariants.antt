use lib.ListN.{length}
use Rattle.model.specs.sheet.Layout.{bytes_of}
use Rattle.sheet.specs.Laid.{bid_in}
use Rattle.sheet.proofs.putting.Puts.{Listed}
use Rattle.sheet.proofs.writing.put_all.Given as goal

-- The bids of the first stations are written.
abbrev pub invariant-loop-bid : goal.invariant-loop-bid
invariant-loop-bid l =
    Listed (length l.row) (λ j. bytes_of 4 (bid_in l.row j)) l.initial.output l.bid-index l.output
