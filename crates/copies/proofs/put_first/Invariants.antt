use Rattle.copies.proofs.Pasting.{Pasting}
use Rattle.copies.proofs.put_first.Given as goal

-- The loop: the first i stand from `at` on.
abbrev pub invariant-loop-i : goal.invariant-loop-i
invariant-loop-i g l = Pasting l.from l.initial.table l.table l.at l.n l.i
