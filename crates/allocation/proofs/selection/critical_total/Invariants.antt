use Prim.Native.Nat.{ℕ, ◌≤◌, ◌<◌, ◌-◌}
use Rattle.allocation.specs.Totals.{max_total}
use Rattle.allocation.specs.Selection.{above}
use Rattle.allocation.proofs.selection.critical_total.Given as goal

abbrev pub invariant-loop-low : goal.invariant-loop-low
invariant-loop-low l =
    (l.low.0 ≤ l.high.0) × (l.high.0 ≤ max_total) × (above l.totals l.high.0 ≤ l.b)
    × ((u : ℕ) → u < l.low.0 → l.b < above l.totals u)

abbrev pub decreases-loop-low : goal.decreases-loop-low
decreases-loop-low l = l.high.0 - l.low.0
