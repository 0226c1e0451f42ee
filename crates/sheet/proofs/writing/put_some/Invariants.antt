use mathlib.Core.Path.{◌≡◌}
use lib.ListN.{length}
use Rattle.sheet.specs.Laid.{bid_in, row_map}
use Rattle.sheet.proofs.writing.Bids.{Walked}
use Rattle.sheet.proofs.writing.put_some.Given as goal

-- The walk over the set bits, from the lowest on.
abbrev pub invariant-loop-place : goal.invariant-loop-place
invariant-loop-place l =
    (e : l.map ≡ row_map (length l.row) (bid_in l.row))
    × Walked (length l.row) (bid_in l.row) e l.fn.output l.output l.place-iterator.left
