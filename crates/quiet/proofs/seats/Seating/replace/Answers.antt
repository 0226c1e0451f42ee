use Rattle.std.proofs.Common.{◌≤◌, arith}
use Rattle.quiet.specs.Efficient.{of}
use Rattle.quiet.specs.Seating.{Seating, seating}
use Rattle.quiet.specs.Rounds.{BestTaker}
use Rattle.quiet.proofs.seats.Seats.{last_guest, before_low, linked_swapped, sized_swapped, into_last}
use Rattle.quiet.proofs.seats.Seating.replace.Goals as goal
use Rattle.quiet.proofs.seats.Seating.replace.Goals.{After-self}

abbrev lists : After-self → Seating
lists c =
    let f = c.self.inside in
    seating f.chosen.now f.held.now f.firsts.now f.nexts.now f.lasts.now f.befores.now f.bars.now

-- what is required, of the lists as the fields have them
record Before (c : After-self) : Type 0 where
  pub taker : BestTaker c.args.round.now (lists c) c.args.x c.args.j
  pub full : of c.args.round.now.market.now.bays c.args.j ≤ of (lists c).held c.args.j

before : (c : After-self) → Before c
before c = record {
  taker = rw (← c.self.view_is) at c.requires.best;
  full = rw (← c.self.view_is) at c.requires.full;
}

pub relink-requires-clause-guests : goal.relink-requires-clause-guests
relink-requires-clause-guests c =
    let b = before (goal.at.relink-requires-clause-guests c).After-self in
    let sized = b.taker.held_in.sized in (
      omega (arith, b.taker.waits.0, sized.nexts_long),
      omega (arith, last_guest _ b.taker b.full, sized.nexts_long),
      omega (arith, before_low _ b.taker b.full, sized.nexts_long),
      omega (arith, c.args.round.now.priced.within.shape.guests_most, sized.nexts_long),
    )

pub close-requires : goal.close-requires
close-requires c =
    let b = before (goal.at.close-requires c).After-self in
    let relinked = rw c.from-y.ensures at c.relink.ensures in record {
      sized = (sized_swapped _ b.taker b.full relinked, b.taker.station);
      linked = linked_swapped _ b.taker b.full relinked;
    }

pub returns : goal.returns
returns c =
    let b = before (goal.at.returns c).After-self in
    let relinked = rw c.from-y.ensures at c.relink.ensures in
    rw (← c.self.view_is, c.from-y.ensures) (into_last _ b.taker b.full relinked c.close.ensures)
