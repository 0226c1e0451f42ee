use Rattle.std.proofs.Common.{◌∙◌, arith}
use Rattle.quiet.proofs.criticals.Ranks.{total_from_low}
use Rattle.quiet.proofs.criticals.Criticals.{raised_turn}
use Rattle.quiet.proofs.criticals.raise_row.Goals as goal

pub narrow-requires : goal.narrow-requires
narrow-requires c =
    omega (
      arith,
      c.raised.ensures,
      total_from_low c.args.least.0 _ c.loop-j.j _ (c.requires.row.bid_most _ c.loop-j-test.true)
          c.requires.amount_le_max_amount.0,
    )

pub loop-j-preserved : goal.loop-j-preserved
loop-j-preserved c =
    raised_turn _ _ _ c.loop-j.invariant (omega (arith, c.loop-j-test.true, c.requires.room.long)) c.from-top.ensures
    (c.narrow.ensures ∙ c.raised.ensures)
