use Prim.Native.Nat.{◌-◌, ◌≤◌}
use Rattle.allocation.specs.Ties.{ties_below, last_ticket}
use Rattle.allocation.proofs.ties.bound_by_ticket.Given as goal

abbrev pub invariant-loop-low : goal.invariant-loop-low
invariant-loop-low l =
    (l.low ≤ l.high) × (l.high ≤ last_ticket) × (ties_below l.totals l.tickets l.t.0 l.low ≤ l.places)
    × (l.places ≤ ties_below l.totals l.tickets l.t.0 l.high)

abbrev pub decreases-loop-low : goal.decreases-loop-low
decreases-loop-low l = l.high - l.low
