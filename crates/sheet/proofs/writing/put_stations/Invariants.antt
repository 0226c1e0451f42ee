use lib.ListN.{length}
use Rattle.sheet.specs.Laid.{station_of}
use Rattle.sheet.proofs.putting.Puts.{Listed}
use Rattle.sheet.proofs.writing.put_stations.Given as goal

-- The first j stations are written.
abbrev pub invariant-loop-j : goal.invariant-loop-j
invariant-loop-j l = Listed (length l.asks) (station_of l.asks l.bays) l.initial.output l.j l.output
