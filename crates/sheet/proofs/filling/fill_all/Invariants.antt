use Prim.Native.Nat.{◌+◌, ◌*◌}
use lib.ListN.{length}
use Rattle.model.specs.sheet.Fields.{little_endian}
use Rattle.model.proofs.Loops.{Filling}
use Rattle.sheet.specs.Taken.{Moved}
use Rattle.sheet.proofs.filling.fill_all.Given as goal

abbrev pub invariant-loop-bid : goal.invariant-loop-bid
invariant-loop-bid l =
    let from = l.initial.cursor in
    record {
      moved : Moved from (4 * l.bid-index) l.cursor;
      filled : Filling (length l.initial.row) (λ j. little_endian from.sheet.now (from.at + 4 * j) 4)
          l.initial.row l.row
          l.bid-index;
    }
