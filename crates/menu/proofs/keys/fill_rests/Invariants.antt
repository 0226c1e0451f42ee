use Prim.Native.Nat.{◌%◌}
use lib.ListN.{length, get_or}
use Rattle.model.proofs.Loops.{Filling}
use Rattle.menu.proofs.keys.fill_rests.Given as goal

abbrev pub invariant-loop-j : goal.invariant-loop-j
invariant-loop-j l =
    Filling (length l.prices) (λ j. get_or l.prices j 0 % l.amount) l.initial.rests l.rests l.j
