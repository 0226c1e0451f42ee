use Prim.Native.Nat.{◌*◌, ◌-◌, ◌≤◌}
use lib.ListN.{length, get_or}
use Rattle.model.specs.Limits.{max_price}
use Rattle.model.specs.Counting.{greatest}
use Rattle.model.proofs.Loops.{Folded}
use Rattle.menu.specs.Keys.{key_from}
use Rattle.menu.proofs.keys.RowKeys.exact_top.Given as goal

abbrev pub invariant-loop-j : goal.invariant-loop-j
invariant-loop-j l =
    (64 * max_price ≤ l.top)
    × Folded greatest (length l.row)
    (λ j. key_from (get_or l.leasts j 0) (get_or l.lifts j 0) (get_or l.row j 0)) (l.top - 64 * max_price) l.j
