use Prim.Native.Nat.{◌+◌, ◌*◌, ◌≤◌, ◌<◌}
use mathlib.Core.Path.{◌∙◌}
use native.Mathlib.Omega.{arith}
use lib.ListN.{length}
use Rattle.model.proofs.Loops.{folded_end, greatest_none, greatest_turn, filling_none, filling_turn}
use Rattle.model.proofs.Loops.{filling_end, in_table}
use Rattle.allocation.specs.Totals.{max_total}
use Rattle.allocation.proofs.totals.Totals.{total_low}
use Rattle.allocation.proofs.totals.gather.Goals as goal
use Rattle.allocation.proofs.totals.gather.Goals.{After-total_for-total}

low : (c : After-total_for-total) → c.total_for-total.result.0 ≤ max_total
low c =
    let inside : c.loop-i.i * c.args.m + c.args.j < length c.args.bids.now = omega (
      arith,
      in_table (length c.args.amounts.now) c.args.m c.loop-i.i c.args.j (omega arith) c.requires.j_lt_m.0,
    ) in
    rw c.total_for-total.ensures
    (total_low _ _ _ (c.requires.by_index _ inside) (c.requires.by_index_2 c.loop-i.i (omega arith)))

pub loop-i-init : goal.loop-i-init
loop-i-init c = (filling_none c.requires.j_lt_m.1, greatest_none, omega arith)

pub narrow-requires : goal.narrow-requires
narrow-requires c = omega (arith, low (goal.at.narrow-requires c).After-total_for-total)

pub larger-top-requires : goal.larger-top-requires
larger-top-requires c = (omega arith, omega (arith, low (goal.at.larger-top-requires c).After-total_for-total))

pub loop-i-preserved : goal.loop-i-preserved
loop-i-preserved c = (
  filling_turn c.loop-i.invariant.0 (omega arith) (c.narrow.ensures ∙ c.total_for-total.ensures),
  greatest_turn c.loop-i.invariant.1 (omega arith) c.total_for-total.ensures c.larger-top.ensures,
  omega (arith, c.larger-top.ensures, low (goal.at.loop-i-preserved c).After-total_for-total),
)

pub returns : goal.returns
returns c =
    record {
      totals_are = filling_end c.loop-i.invariant.0 (omega arith);
      greatest_is = folded_end c.loop-i.invariant.1 (omega arith);
    }
