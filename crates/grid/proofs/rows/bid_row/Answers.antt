use mathlib.Core.Path.{refl}
use native.Mathlib.Omega.{arith}
use Rattle.model.proofs.Loops.{filling_turn, filling_end, relist}
use Rattle.grid.specs.Rows.{row_bids}
use Rattle.grid.proofs.rows.Rows.{squares_long, walk_square, in_table, loss_fits, bid_is}
use Rattle.grid.proofs.rows.bid_row.Goals as goal

pub bounds-squares-j : goal.bounds-squares-j
bounds-squares-j c = omega (arith, squares_long _ _ _ c.requires.1, c.requires.0.row_long)

pub bounds-walks-from : goal.bounds-walks-from
bounds-walks-from c =
    in_table c.requires.0 _ c.loop-j-test.true
    (walk_square c.requires.0 _ c.loop-j-test.true c.requires.1 c.from.ensures)

pub bid-requires : goal.bid-requires
bid-requires c =
    loss_fits c.requires.0 _ c.loop-j-test.true
    (walk_square c.requires.0 _ c.loop-j-test.true c.requires.1 c.from.ensures)

pub loop-j-preserved : goal.loop-j-preserved
loop-j-preserved c =
    filling_turn c.loop-j.invariant c.loop-j-test.true
    (bid_is c.requires.0 _ c.loop-j-test.true
    (walk_square c.requires.0 _ c.loop-j-test.true c.requires.1 c.from.ensures) c.bid.ensures)

pub returns : goal.returns
unfolding row_bids
returns c =
    relist _ _ _ _ (filling_end c.loop-j.invariant c.loop-j-test.false) c.requires.0.row_long (λ k l. refl)
