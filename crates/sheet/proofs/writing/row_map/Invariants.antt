use mathlib.Core.Path.{◌≡◌}
use lib.ListN.{length}
use Rattle.sheet.specs.Laid.{bid_in}
use Rattle.sheet.proofs.writing.Maps.{map_from}
use Rattle.sheet.proofs.writing.row_map.Given as goal

-- The bits of the stations from j on.
abbrev pub invariant-loop-j : goal.invariant-loop-j
invariant-loop-j l = l.map ≡ map_from (length l.row) (bid_in l.row) l.j
