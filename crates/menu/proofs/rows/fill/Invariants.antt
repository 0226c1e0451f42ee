use Prim.Native.Nat.{◌%◌}
use lib.IntN.{pos}
use lib.ListN.{length, get_or}
use Rattle.model.proofs.Singles.{Storing}
use Rattle.menu.specs.Holds.{top_key}
use Rattle.menu.proofs.rows.fill.Given as goal

abbrev pub invariant-loop-r : goal.invariant-loop-r
invariant-loop-r l =
    Storing (pos 0) (length l.initial.gains) (λ r. get_or l.table (top_key l.rows l.row_keys r % 64) (pos 0))
    l.gains l.r
