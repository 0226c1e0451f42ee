use lib.ListN.{length, get_or}
use Rattle.model.proofs.Loops.{Filling}
use Rattle.pricing.specs.Charges.{charged_at}
use Rattle.pricing.proofs.charges.charge_guests.Given as goal

abbrev pub invariant-loop-i : goal.invariant-loop-i
invariant-loop-i l =
    Filling (length l.chosen) (λ k. get_or l.chosen k 0) l.initial.stations l.stations l.i
    × Filling (length l.chosen) (charged_at l.chosen l.least l.criticals) l.initial.charges l.charges l.i
