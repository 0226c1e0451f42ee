use Rattle.std.proofs.Common.{◌≡◌, ◌+◌, ◌-◌, ◌*◌, ◌^◌, length, ap, arith}
use Rattle.allocation.specs.Screens.{screened_at}
use Rattle.allocation.specs.Ties.{last_ticket}
use Rattle.model.specs.clauses.Rows.{row_of}
use Rattle.quiet.specs.Efficient.{of, Priced}
use Rattle.quiet.specs.Seating.{Opened}
use Rattle.quiet.proofs.takers.Takers.{best_start, best_turn, best_end, no_choice_is, in_row}
use Rattle.quiet.proofs.takers.Takers.{scaled_low, choice_here, below_cut}
use Rattle.quiet.proofs.takers.best_choice.Goals as goal
use Rattle.quiet.proofs.takers.best_choice.Goals.{After-from}

-- the code's numbers and its row are those of the round's market
record Read (c : After-from) : Type 0 where
  pub priced : Priced c.args.round.now.market.now c.args.round.now.cut.0
  pub opened : Opened c.args.round.now.market.now.asks c.args.round.now.cut.0 c.args.round.now.opened.now
  pub scale : c.from-scale.result * 2 ^ 32 ≡ of c.args.round.now.market.now.amounts c.args.x * 2 ^ 32
  pub low : c.from-low.result ≡ last_ticket - of c.args.round.now.market.now.tickets c.args.x
  pub row : c.row_through_view-row.result.now
      ≡ row_of c.args.round.now.market.now.bids (length c.args.round.now.market.now.asks) (c.args.x + 1)

read : (c : After-from) → Read c
read c = record {
  priced = c.args.round.now.priced;
  opened = c.args.round.now.open_stations;
  scale = rw (← c.market.view_is) (ap (λ a. a * 2 ^ 32) c.from-scale.ensures);
  low = rw (← c.market.view_is) c.from-low.ensures;
  row = rw (← c.market.view_is) c.row_through_view-row.ensures;
}

pub loop-j-init : goal.loop-j-init
loop-j-init c =
    let r = read (goal.at.loop-j-init c).After-from in
    best_start (no_choice_is _ r.priced c.requires.x_in_bounds r.scale
    (ap (λ k. k * (c.from-scale.result * 2 ^ 32)) c.from.ensures))

pub bounds-row-j : goal.bounds-row-j
bounds-row-j c =
    let r = read (goal.at.bounds-row-j c).After-from in
    omega (
      arith,
      in_row _ r.priced c.requires.x_in_bounds r.row,
      (r.opened.stations c.loop-j.j-index c.loop-j-test.true).0,
    )

pub better-top-requires : goal.better-top-requires
better-top-requires c =
    let r = read (goal.at.better-top-requires c).After-from in
    let here = (r.opened.stations c.loop-j.j-index c.loop-j-test.true).0 in (
      scaled_low _ r.priced c.requires.x_in_bounds r.row here r.scale,
      omega (arith, r.low),
      c.requires.bars.low _ here,
      omega (arith, here, r.priced.within.shape.stations_most),
    )

pub loop-j-preserved : goal.loop-j-preserved
unfolding screened_at
loop-j-preserved c =
    let r = read (goal.at.loop-j-preserved c).After-from in
    let lx = c.requires.x_in_bounds in
    let (here, ask) = r.opened.stations c.loop-j.j-index c.loop-j-test.true in
    best_turn c.loop-j.invariant c.loop-j-test.true here (below_cut _ r.priced lx _ ask)
    (choice_here _ r.priced lx r.row here r.scale _ _ r.low c.better-top.ensures)

pub returns : goal.returns
returns c =
    let r = read (goal.at.returns c).After-from in
    best_end _ r.priced c.requires.x_in_bounds r.opened c.loop-j.invariant c.loop-j-test.false
