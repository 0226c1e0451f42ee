use mathlib.Core.Logic.{inl, inr}
use mathlib.Core.Path.{sym, ◌∙◌}
use native.Mathlib.Nat.{le_antisymm}
use native.Mathlib.Omega.{arith}
use Rattle.allocation.proofs.ties.Ties.{ties_none, ties_more, ties_go_on}
use Rattle.allocation.proofs.ties.Ties.{ties_below_order}
use Rattle.allocation.proofs.ties.bound_by_order.Goals as goal
use Rattle.allocation.proofs.ties.bound_by_order.Goals.{then-from-t, else-from-t}

pub loop-n-preserved : goal.loop-n-preserved
loop-n-preserved c =
    let inv = c.loop-n.invariant in
    let next = ties_go_on c.args.totals.now c.args.t.0 inv.0 inv.2 inv.1 c.requires.0.crowded in
    elim c.if-from-t.branch [
      | then-from-t w ↦ (omega arith, omega arith, ties_more _ _ _ inv.2 (inl (omega arith, w.n-is)))
      | else-from-t w ↦ (omega arith, omega arith, ties_more _ _ _ inv.2 (inr ((λ e. omega arith), w.n-is)))
    ]

pub returns : goal.returns
returns c =
    let inv = c.loop-n.invariant in
    let next = ties_go_on c.args.totals.now c.args.t.0 inv.0 inv.2 inv.1 c.requires.0.crowded in
    ties_below_order _ _ _ _ c.requires.0.as_long c.requires.1 next
    ∙ sym inv.2 ∙ le_antisymm inv.1 c.loop-n-test.false

pub loop-n-init : goal.loop-n-init
loop-n-init c = (omega arith, omega arith, ties_none _ _)
