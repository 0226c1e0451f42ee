use native.Mathlib.Omega.{arith}
use Rattle.model.specs.sheet.Rows.{ask_of, bays_of}
use Rattle.model.proofs.Loops.{filling_turn, filling_end}
use Rattle.model.proofs.sheet.Fields.{moved}
use Rattle.sheet.proofs.fields.Moves.{moved_by, moved_then, taken_after}
use Rattle.sheet.proofs.filling.fill_stations.Goals as goal

pub loop-j-preserved : goal.loop-j-preserved
unfolding ask_of bays_of
loop-j-preserved c =
    let i = c.loop-j.invariant in
    let ask = c.four-ask.ensures in
    record {
      moved = moved_by (moved_then (moved_then i.moved ask.moved) c.two-count.ensures.moved) (omega arith);
      asks = filling_turn i.asks c.loop-j-test.true (moved _ 4 _ _ (taken_after i.moved ask) (omega arith));
      bays = filling_turn i.bays (omega arith)
          (moved _ 2 _ _ (taken_after (moved_then i.moved ask.moved) c.two-count.ensures) (omega arith));
    }

pub returns : goal.returns
returns c =
    let i = c.loop-j.invariant in
    record {
      moved = moved_by i.moved (omega arith);
      asks_are = filling_end i.asks c.loop-j-test.false;
      bays_are = filling_end i.bays c.loop-j-test.false;
    }
