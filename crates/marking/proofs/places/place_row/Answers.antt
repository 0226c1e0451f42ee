use native.Mathlib.Omega.{arith}
use Rattle.model.proofs.Loops.{filling_turn, filling_end}
use Rattle.marking.specs.Places.{row_place}
use Rattle.marking.proofs.places.place_row.Goals as goal

pub loop-j-preserved : goal.loop-j-preserved
unfolding row_place
loop-j-preserved c = filling_turn c.loop-j.invariant c.loop-j-test.true (rw (← c.from.ensures) c.place.ensures)

pub returns : goal.returns
returns c = filling_end c.loop-j.invariant (omega arith)
