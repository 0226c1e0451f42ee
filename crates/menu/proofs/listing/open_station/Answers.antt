use Prim.Native.Nat.{◌-◌}
use mathlib.Core.Path.{sym, ap, ◌∙◌}
use native.Mathlib.Omega.{arith}
use lib.ListN.{get_or}
use Rattle.model.proofs.market.Limits.{product}
use Rattle.menu.proofs.Rivals.{xs_long, xs_few, xs_low, top_low, none_above, critical_low, above_few}
use Rattle.menu.proofs.Rivals.{ties_few, bar_is, price_is}
use Rattle.menu.proofs.listing.open_station.Goals as goal

pub critical_total-critical-requires-clause-totals_len_bound :
    goal.critical_total-critical-requires-clause-totals_len_bound
critical_total-critical-requires-clause-totals_len_bound c =
    let g = c.gather-top.ensures in
    let s = rw (← c.market.view_is) at c.requires in
    let w = c.market.invariant in (
      xs_few _ _ w _ s.guest _ s.station s.is_open _ g.totals_are,
      none_above _ _ w _ s.guest _ s.station s.is_open _ g.totals_are g,
    )

pub critical_total-critical-requires-clause-totals : goal.critical_total-critical-requires-clause-totals
critical_total-critical-requires-clause-totals c =
    let g = c.gather-top.ensures in
    let s = rw (← c.market.view_is) at c.requires in
    let w = c.market.invariant in (
      xs_low _ _ w _ s.guest _ s.station s.is_open _ g.totals_are,
      top_low _ _ w _ s.guest _ s.station s.is_open _ g.totals_are g,
    )

pub count_ties-tied-requires : goal.count_ties-tied-requires
count_ties-tied-requires c =
    let g = c.gather-top.ensures in
    let s = rw (← c.market.view_is) at c.requires in
    let w = c.market.invariant in (
      xs_few _ _ w _ s.guest _ s.station s.is_open _ g.totals_are,
      w.shape.tickets_length ∙ sym (xs_long _ _ w _ s.guest _ s.station s.is_open _ g.totals_are),
      critical_low _ _ w _ s.guest _ s.station s.is_open _ g.totals_are g c.critical_total-critical.ensures,
    )

pub overflow_add-loses : goal.overflow_add-loses
overflow_add-loses c =
    let g = c.gather-top.ensures in
    let s = rw (← c.market.view_is) at c.requires in
    let w = c.market.invariant in
    omega (
      arith,
      c.count_ties-tied.ensures,
      above_few _ _ w _ s.guest _ s.station s.is_open _ g.totals_are _ _ _ c.critical_total-critical.ensures,
      ties_few _ _ w _ s.guest _ s.station s.is_open _ g.totals_are
          c.critical_total-critical.result.total.0 (get_or c.market.inside.tickets.now c.args.i 0),
    )

pub entry_of-requires : goal.entry_of-requires
entry_of-requires c =
    let g = c.gather-top.ensures in
    let s = rw (← c.market.view_is) at c.requires in
    let w = c.market.invariant in (
      rw (c.times.ensures, c.from.ensures) (product _ _ s.cut_low (w.amount_most _ s.guest)),
      critical_low _ _ w _ s.guest _ s.station s.is_open _ g.totals_are g c.critical_total-critical.ensures,
    )

pub returns : goal.returns
returns c =
    let g = c.gather-top.ensures in
    let s = rw (← c.market.view_is) at c.requires in
    let w = c.market.invariant in
    let done = rw (c.times.ensures, c.from.ensures) at c.entry_of.ensures in
    rw (← c.market.view_is) (
      bar_is _ _ w _ s.guest _ s.station s.is_open _ g.totals_are _ _ _ (ap (λ x. x - 1) c.from-b.ensures)
          c.critical_total-critical.ensures c.count_ties-tied.ensures done.0,
      price_is _ _ w _ s.guest _ s.station s.is_open _ g.totals_are _ _ _ (ap (λ x. x - 1) c.from-b.ensures)
          c.critical_total-critical.ensures done.1,
    )
