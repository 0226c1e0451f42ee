use Prim.Native.Nat.{◌*◌}
use lib.ListN.{length}
use Rattle.model.specs.sheet.Rows.{ask_of, bays_of}
use Rattle.model.proofs.Loops.{Filling}
use Rattle.sheet.specs.Taken.{Moved}
use Rattle.sheet.proofs.filling.fill_stations.Given as goal

abbrev pub invariant-loop-j : goal.invariant-loop-j
invariant-loop-j l =
    let s = l.initial.cursor.sheet.now in
    record {
      moved : Moved l.initial.cursor (6 * l.j) l.cursor;
      asks : Filling (length l.initial.asks) (ask_of s) l.initial.asks l.asks l.j;
      bays : Filling (length l.initial.asks) (bays_of s) l.initial.bays l.bays l.j;
    }
