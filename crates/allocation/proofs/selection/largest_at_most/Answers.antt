use mathlib.Core.Path.{ap, ◌∙◌}
use native.Mathlib.Omega.{arith}
use Rattle.model.specs.Counting.{◌≤?◌, only}
use Rattle.model.proofs.Tests.{only_le}
use Rattle.model.proofs.Loops.{folded_end, greatest_none, greatest_turn, greatest_low}
use Rattle.allocation.specs.Totals.{max_total}
use Rattle.allocation.specs.Selection.{greatest_up_to}
use Rattle.allocation.proofs.selection.largest_at_most.Goals as goal

pub loop-x-init : goal.loop-x-init
loop-x-init c = greatest_none

pub larger-r-requires : goal.larger-r-requires
larger-r-requires c = (
  omega (arith, greatest_low {y = max_total} c.loop-x.invariant (λ k l. only_le _ _ _ (λ _. c.requires.0 k l))),
  omega (
    arith,
    c.capped.ensures,
    only_le (c.from.result.0 ≤? c.args.t.0) c.from.result.0 max_total
        (λ _. omega (arith, c.from.ensures, c.requires.0 c.loop-x.x-index (omega arith))),
  ),
)

pub loop-x-preserved : goal.loop-x-preserved
loop-x-preserved c =
    greatest_turn c.loop-x.invariant (omega arith)
    (c.capped.ensures ∙ ap (λ x. only (x ≤? c.args.t.0) x) c.from.ensures)
    c.larger-r.ensures

pub returns : goal.returns
unfolding greatest_up_to
returns c = folded_end c.loop-x.invariant (omega arith)
