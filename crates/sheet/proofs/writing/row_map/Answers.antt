use mathlib.Core.Path.{◌∙◌}
use native.Mathlib.Omega.{arith}
use Rattle.model.specs.Counting.{◌<?◌}
use Rattle.sheet.specs.Laid.{bid_in}
use Rattle.sheet.proofs.writing.Maps.{map_none, map_turn, map_end, map_fits, bit_of, bit_low}
use Rattle.sheet.proofs.writing.row_map.Goals as goal

pub loop-j-init : goal.loop-j-init
loop-j-init c = map_none _ (bid_in c.args.row.now)

pub overflow_mul-map : goal.overflow_mul-map
overflow_mul-map c = omega (arith, map_fits _ (bid_in c.args.row.now) _ _ c.requires c.loop-j.invariant)

pub overflow_add-map : goal.overflow_add-map
overflow_add-map c =
    omega (
      arith,
      map_fits _ (bid_in c.args.row.now) _ _ c.requires c.loop-j.invariant,
      bit_low _ (c.from.ensures ∙ bit_of _),
    )

pub loop-j-preserved : goal.loop-j-preserved
unfolding bid_in ◌<?◌
loop-j-preserved c =
    map_turn _ (bid_in c.args.row.now) _ _ _ c.loop-j-test.true c.loop-j.auto.j c.loop-j.invariant
    (c.from.ensures ∙ bit_of _)

pub returns : goal.returns
returns c = map_end _ (bid_in c.args.row.now) _ _ c.loop-j-test.false c.loop-j.invariant
