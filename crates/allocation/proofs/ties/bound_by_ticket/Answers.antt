use Prim.Native.Nat.{◌+◌, ◌-◌, ◌/◌}
use native.Mathlib.Omega.{arith}
use Rattle.allocation.specs.Ties.{last_ticket}
use Rattle.allocation.proofs.ties.Ties.{ties_below_zero, ties_below_next, ties_below_last}
use Rattle.allocation.proofs.ties.bound_by_ticket.Goals as goal

pub loop-low-init : goal.loop-low-init
loop-low-init c = (
  omega arith,
  omega arith,
  omega (arith, ties_below_zero c.args.totals.now c.args.tickets.now c.args.t.0),
  omega (
    arith,
    c.requires.0.crowded,
    ties_below_last c.args.totals.now c.args.tickets.now c.args.t.0 last_ticket
        c.requires.0.as_long c.requires.1 (λ k _. omega (arith, c.type_inv.tickets k)),
  ),
)

pub loop-low-preserved-then-n-places-2 : goal.loop-low-preserved-then-n-places-2
loop-low-preserved-then-n-places-2 c = (
  omega (arith, c.loop-low-test.true),
  c.loop-low.invariant.1,
  omega (
    arith,
    c.if-n-places-2.true,
    c.count_ties-n.ensures,
    ties_below_next c.args.totals.now c.args.tickets.now c.args.t.0
        (c.loop-low.low + (c.loop-low.high - c.loop-low.low) / 2)
        c.requires.0.as_long c.requires.1,
  ),
  c.loop-low.invariant.3,
)
