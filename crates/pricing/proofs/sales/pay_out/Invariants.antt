use Prim.Native.Nat.{◌+◌, ◌*◌}
use lib.ListN.{length, get_or}
use Rattle.model.proofs.Loops.{Filling}
use Rattle.pricing.proofs.sales.pay_out.Given as goal

abbrev pub invariant-loop-j : goal.invariant-loop-j
invariant-loop-j l =
    Filling (length l.initial.sold) (λ k. get_or l.kwh (k + 1) 0) l.initial.sold l.sold l.j
    × Filling (length l.initial.sold) (λ k. l.cut.0 * get_or l.kwh (k + 1) 0) l.initial.paid l.paid l.j
