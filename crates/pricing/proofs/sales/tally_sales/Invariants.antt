use Rattle.pricing.proofs.sales.Sales.{Tallying}
use Rattle.pricing.proofs.sales.tally_sales.Given as goal

abbrev pub invariant-loop-i : goal.invariant-loop-i
invariant-loop-i l = Tallying l.stations l.amounts l.i l.kwh
