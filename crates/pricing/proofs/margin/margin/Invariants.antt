use Prim.Native.Nat.{◌-◌}
use lib.ListN.{length, get_or}
use Rattle.model.specs.Counting.{sum}
use Rattle.model.proofs.Loops.{Folded}
use Rattle.pricing.proofs.margin.margin.Given as goal

abbrev pub invariant-loop-charge : goal.invariant-loop-charge
invariant-loop-charge l =
    Folded sum (length l.charges) (λ k. get_or l.charges k 0 - get_or l.least k 0) l.r.0 (length l.yielded)
