use Rattle.allocation.proofs.offers.Offers.{Offering}
use Rattle.allocation.proofs.offers.offer_below.Given as goal

abbrev pub invariant-loop-i : goal.invariant-loop-i
invariant-loop-i l =
    Offering l.totals l.tickets l.least l.bar.critical.0 l.bar.bound l.station l.initial.chosen l.initial.gains l.i
    l.chosen l.gains
