use mathlib.Core.Path.{refl, sym, ◌∙◌}
use native.Mathlib.Omega.{arith}
use Rattle.model.specs.market.Market.{regular}
use Rattle.model.proofs.Compared.{lt_is}
use Rattle.model.proofs.Loops.{long}
use Rattle.allocation.proofs.totals.Totals.{as_many}
use Rattle.allocation.proofs.turns.Turns.{Opened, opened, few, total_low, tying, offered, turned, left, none_above}
use Rattle.allocation.proofs.turns.Turns.{top_low}
use Rattle.allocation.proofs.turns.station.Goals as goal
use Rattle.allocation.proofs.turns.station.Goals.{After-gather-top}

open_here :
    (c : After-gather-top)
    → let m = c.market.inside in
    Opened (regular m.asks.now m.bays.now m.amounts.now m.tickets.now m.bids.now) c.args.round.now.cut.0
    c.args.round.now.least.now c.args.j c.gather-top.new.totals c.gather-top.result.0
open_here c =
    opened c.market.view_is c.market.invariant c.args.round.now.at_cut c.requires.j_in_bounds.0
    (sym (lt_is _ _) ∙ sym c.lt.ensures ∙ c.if-lt.true) c.gather-top.ensures

pub critical_total-critical-requires : goal.critical_total-critical-requires
critical_total-critical-requires c =
    let o = open_here (goal.at.critical_total-critical-requires c).After-gather-top in
    record {
      totals_len_bound = (few o, none_above o.gathered);
      totals = (o.low, top_low o.gathered o.low);
    }

pub tie_bound-bound-requires : goal.tie_bound-bound-requires
tie_bound-bound-requires c =
    tying (open_here (goal.at.tie_bound-bound-requires c).After-gather-top) c.critical_total-critical.ensures _
    c.market.view_is c.args.round.now.rises

pub narrow-requires : goal.narrow-requires
narrow-requires c =
    omega (
      arith,
      total_low (open_here (goal.at.narrow-requires c).After-gather-top) c.critical_total-critical.ensures,
    )

pub bounds-criticals-s : goal.bounds-criticals-s
bounds-criticals-s c =
    omega (
      arith,
      as_many c.market.view_is,
      c.market.invariant.shape.stations_most,
      long _ _ c.requires.after_in.criticals_are,
    )

pub offer-requires : goal.offer-requires
offer-requires c =
    offered (open_here (goal.at.offer-requires c).After-gather-top) c.critical_total-critical.ensures
    c.tie_bound-bound.ensures c.market.view_is c.requires.after_in

pub returns-then-lt : goal.returns-then-lt
returns-then-lt c =
    turned (open_here (goal.at.returns-then-lt c).After-gather-top) c.critical_total-critical.ensures
    c.tie_bound-bound.ensures _ _ _ c.market.view_is refl c.from-b.ensures c.narrow.ensures c.requires.after_in
    c.requires.bounded_in c.offer.ensures

pub returns-else-lt : goal.returns-else-lt
returns-else-lt c =
    left _ _ _ c.market.view_is (sym (lt_is _ _) ∙ sym c.lt.ensures ∙ c.if-lt.false) c.requires.after_in
    c.requires.bounded_in
