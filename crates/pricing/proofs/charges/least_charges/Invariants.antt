use lib.ListN.{length}
use Rattle.model.proofs.Loops.{Filling}
use Rattle.pricing.specs.Charges.{least_at}
use Rattle.pricing.proofs.charges.least_charges.Given as goal

abbrev pub invariant-loop-i : goal.invariant-loop-i
invariant-loop-i l = Filling (length l.amounts) (least_at l.amounts l.cut.0) l.initial.least l.least l.i
