use Prim.Native.Nat.{◌*◌, ◌-◌, ◌≤◌}
use lib.ListN.{length, get_or}
use Rattle.model.specs.Limits.{max_price}
use Rattle.model.specs.Counting.{greatest}
use Rattle.model.proofs.Loops.{Folded}
use Rattle.menu.specs.Keys.{plain_key}
use Rattle.menu.proofs.keys.RowKeys.plain_top.Given as goal

abbrev pub invariant-loop-j : goal.invariant-loop-j
invariant-loop-j l =
    (64 * max_price ≤ l.top)
    × Folded greatest (length l.row) (λ j. plain_key (get_or l.lifts j 0) (get_or l.row j 0))
    (l.top - 64 * max_price) l.j
