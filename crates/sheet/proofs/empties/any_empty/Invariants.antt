use Prim.Native.Nat.{◌+◌, ◌*◌, ◌/◌}
use Rattle.sheet.specs.Taken.{Scanned}
use Rattle.sheet.proofs.empties.any_empty.Given as goal

abbrev pub invariant-loop : goal.invariant-loop
invariant-loop l = Scanned l.initial.cursor (4 * l.counter) l.empty l.cursor

abbrev pub invariant-loop-2 : goal.invariant-loop-2
invariant-loop-2 l = Scanned l.fn.cursor (4 * (l.bids / 4) + l.counter) l.empty l.cursor
