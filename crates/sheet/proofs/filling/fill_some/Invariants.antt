use lib.ListN.{length}
use Rattle.sheet.proofs.filling.Bids.{Walked}
use Rattle.sheet.proofs.filling.fill_some.Given as goal

-- The walk over the set bits, from the lowest on.
abbrev pub invariant-loop-place : goal.invariant-loop-place
invariant-loop-place l = Walked l.fn.cursor l.map (length l.fn.row) l.row l.place-iterator.left l.cursor
