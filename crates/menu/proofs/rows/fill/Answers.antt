use Prim.Native.Nat.{ℕ, ◌+◌, ◌*◌, ◌%◌, ◌≤◌}
use mathlib.Core.Path.{ap, ◌∙◌}
use native.Mathlib.Nat.{mul-le-mul_right}
use native.Mathlib.Omega.{arith}
use lib.IntN.{pos}
use borrow.Author.Rules.{rules}
use lib.ListN.{length, get_or}
use Rattle.model.proofs.Differences.{reads_back}
use Rattle.model.proofs.Singles.{storing_turn, storing_end}
use Rattle.menu.specs.Holds.{row_gains}
use Rattle.menu.proofs.Gaining.{row_top}
use Rattle.menu.proofs.rows.fill.Goals as goal

pub loop-r-preserved : goal.loop-r-preserved
loop-r-preserved c =
    let m : ℕ = length c.row_keys.inside.leasts.now in
    let h = rw (← c.row_keys.view_is) at c.requires in
    let inside : c.loop-r.r * m + m ≤ length c.args.rows.now =
    omega (arith, h.whole, mul-le-mul_right m c.loop-r-test.true) in
    let top = rw (← c.row_keys.view_is) at c.top_key-top.ensures in
    let key = rw c.row_keys.view_is at (row_top c.args.rows.now _ c.loop-r.r _ (omega arith) inside top) in
    storing_turn c.loop-r.invariant (omega arith)
    (reads_back (get_or c.args.table.now (c.top_key-top.result % 64) (pos 0)) (search rules)
    ∙ ap (λ x. get_or c.args.table.now (x % 64) (pos 0)) key)

pub returns : goal.returns
unfolding row_gains
returns c = storing_end c.loop-r.invariant (omega arith)
