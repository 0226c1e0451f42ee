use mathlib.Core.Path.{sym, ◌∙◌}
use Rattle.menu.proofs.Gained.{priced_here, prices_here}
use Rattle.menu.proofs.accepted.gain_accepted.Goals as goal

pub invariant_of-offers : goal.invariant_of-offers
invariant_of-offers c =
    let w = c.market.invariant in
    let s = rw (← c.market.view_is) at c.requires in
    let e = rw (← c.market.view_is) at c.list_accepted.ensures in
    record {
      priced = priced_here _ _ w _ s.guest_below e;
      worths_long = s.worths_fit.row_length ∙ sym (prices_here _ _ w _ s.guest_below e);
    }
