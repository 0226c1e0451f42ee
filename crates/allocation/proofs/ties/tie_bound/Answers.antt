use Rattle.allocation.proofs.ties.Ties.{no_tie, no_place, bounds}
use Rattle.allocation.proofs.ties.tie_bound.Goals as goal
use Rattle.allocation.proofs.ties.tie_bound.Goals.{then-t-eq0-via-then-t-eq0, then-t-eq0-via-else-t-eq0+then-b-critical}

pub returns-then-t-eq0 : goal.returns-then-t-eq0
returns-then-t-eq0 c = elim c.then-t-eq0.branch [
  | then-t-eq0-via-then-t-eq0 w ↦ no_tie w.if-t-eq0.true
  | then-t-eq0-via-else-t-eq0+then-b-critical w ↦ no_place w.if-b-critical.true
]

pub returns-then-rising : goal.returns-then-rising
returns-then-rising c = bounds c.if-t-eq0.false c.requires.above_few c.bound_by_order.ensures

pub returns-else-rising : goal.returns-else-rising
returns-else-rising c = bounds c.if-t-eq0.false c.requires.above_few c.bound_by_ticket.ensures
