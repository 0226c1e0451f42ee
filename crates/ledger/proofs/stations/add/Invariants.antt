use lib.ListN.{get_or}
use Rattle.model.specs.book.Book.{sold_of, paid_of}
use Rattle.ledger.proofs.Records.{Raised}
use Rattle.ledger.proofs.stations.add.Given as goal

abbrev pub invariant-loop-j : goal.invariant-loop-j
invariant-loop-j l =
    Raised (λ j. get_or l.r.sold j 0) (sold_of l.initial.stations) (sold_of l.stations) l.j
    × Raised (λ j. get_or l.r.paid j 0) (paid_of l.initial.stations) (paid_of l.stations) l.j
