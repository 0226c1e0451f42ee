use Prim.Native.Nat.{◌-◌, ◌≤◌}
use mathlib.Core.Path.{◌≡◌}
use lib.ListN.{length}
use Rattle.allocation.specs.Ties.{ties}
use Rattle.allocation.proofs.ties.bound_by_order.Given as goal

abbrev pub invariant-loop-n : goal.invariant-loop-n
invariant-loop-n l = (l.i ≤ length l.totals) × (l.n ≤ l.places) × (l.n ≡ ties l.totals l.t.0 l.i)

abbrev pub decreases-loop-n : goal.decreases-loop-n
decreases-loop-n l = length l.totals - l.i
