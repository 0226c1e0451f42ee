use mathlib.Core.Path.{◌≡◌}
use native.Mathlib.Omega.{arith}
use Rattle.model.specs.places.Bids.{difference}
use Rattle.model.proofs.places.Cells.{distance_is}
use Rattle.grid.proofs.rows.squared_distance.Goals as goal

pub returns : goal.returns
unfolding difference
returns c =
    let first : c.from-first.result ≡ difference c.args.a.first c.args.b.first =
    omega (arith, c.from-first.ensures, c.abs_diff.ensures) in
    let second : c.from-second.result ≡ difference c.args.a.second c.args.b.second =
    omega (arith, c.from-second.ensures, c.abs_diff-2.ensures) in
    distance_is c.args.a c.args.b first second
