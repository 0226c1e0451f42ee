use Rattle.std.proofs.Common.{◌<◌, ap, sym, ◌∙◌}
use Rattle.quiet.specs.Efficient.{of}
use Rattle.quiet.specs.Seating.{Seating, seating}
use Rattle.quiet.specs.Rounds.{BestTaker}
use Rattle.quiet.proofs.seats.Seats.{linked_filled, sized_filled, into_free, into_last_free}
use Rattle.quiet.proofs.seats.Seating.fill.Goals as goal
use Rattle.quiet.proofs.seats.Seating.fill.Goals.{After-self}

abbrev lists : After-self → Seating
lists c =
    let f = c.self.inside in
    seating f.chosen.now f.held.now f.firsts.now f.nexts.now f.lasts.now f.befores.now f.bars.now

-- what is required, of the lists as the fields have them
record Before (c : After-self) : Type 0 where
  pub taker : BestTaker c.args.round.now (lists c) c.args.x c.args.j
  pub free : of (lists c).held c.args.j < of c.args.round.now.market.now.bays c.args.j

before : (c : After-self) → Before c
before c = record {
  taker = rw (← c.self.view_is) at c.requires.best;
  free = rw (← c.self.view_is) at c.requires.free;
}

pub close-requires : goal.close-requires
close-requires c =
    let b = before (goal.at.close-requires c).After-self in record {
      sized = (sized_filled _ b.taker b.free, b.taker.station);
      linked = linked_filled _ b.taker b.free;
    }

pub returns-then-h-market : goal.returns-then-h-market
returns-then-h-market c =
    let b = before (goal.at.returns-then-h-market c).After-self in
    let bays_are = ap (λ t. of t.bays c.args.j) c.market.view_is in
    rw (← c.self.view_is) (into_last_free _ b.taker b.free
    (sym (c.if-h-market.true ∙ bays_are)) c.close.ensures)

pub returns-else-h-market : goal.returns-else-h-market
returns-else-h-market c =
    let b = before (goal.at.returns-else-h-market c).After-self in
    let bays_are = ap (λ t. of t.bays c.args.j) c.market.view_is in
    rw (← c.self.view_is) (into_free _ b.taker b.free
    (λ e. c.if-h-market.false (sym (bays_are ∙ e))))
