use native.Mathlib.Omega.{arith}
use Rattle.model.proofs.Loops.{filling_turn, filling_end, relist}
use Rattle.model.proofs.places.Cells.{grid_distances}
use Rattle.grid.specs.Rows.{square_at, row_squares}
use mathlib.Core.Path.{refl}
use Rattle.grid.proofs.rows.square_row.Goals as goal

pub overflow_cast-squares : goal.overflow_cast-squares
overflow_cast-squares c =
    omega (
      arith,
      c.squared_distance.ensures,
      grid_distances _ _ c.requires.on_grid
          (c.requires.station_on_grid c.loop-j.j (omega (arith, c.requires.squares_long))),
    )

pub loop-j-preserved : goal.loop-j-preserved
unfolding square_at
loop-j-preserved c = filling_turn c.loop-j.invariant c.loop-j-test.true c.squared_distance.ensures

pub returns : goal.returns
unfolding row_squares
returns c =
    relist _ _ _ _ (filling_end c.loop-j.invariant c.loop-j-test.false) c.requires.squares_long (λ k l. refl)
