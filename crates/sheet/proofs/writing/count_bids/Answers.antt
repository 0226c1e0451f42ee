use mathlib.Core.Path.{◌∙◌}
use native.Mathlib.Nat.{le_refl}
use native.Mathlib.Numerals.{add-one}
use native.Mathlib.Omega.{arith}
use lib.ListN.{get_or}
use Rattle.model.specs.Counting.{◌<?◌, count, sum}
use Rattle.model.proofs.Loops.{counted_none, count_low, folded_turn}
use Rattle.model.proofs.Tests.{only_le}
use Rattle.sheet.proofs.writing.Maps.{bit_of}
use Rattle.sheet.proofs.writing.count_bids.Goals as goal

pub loop-bid-init : goal.loop-bid-init
loop-bid-init c = counted_none

pub overflow_add-n : goal.overflow_add-n
unfolding ◌<?◌
overflow_add-n c =
    omega (
      arith,
      count_low c.loop-bid.invariant,
      c.from-n.ensures ∙ bit_of _,
      only_le (0 <? get_or c.args.bids.now c.loop-bid.bid-index 0) 1 1 (λ _. le_refl 1),
    )

pub loop-bid-preserved : goal.loop-bid-preserved
unfolding count sum ◌<?◌
loop-bid-preserved c =
    folded_turn c.loop-bid.invariant (omega arith)
    (rw add-one (omega (arith, c.loop-bid.invariant.so_far, c.from-n.ensures ∙ bit_of _)))
