use lib.ListN.{length, get_or}
use Rattle.model.specs.Counting.{◌<?◌, ◌=?◌, ◌and◌, count}
use Rattle.model.proofs.Loops.{Folded}
use Rattle.allocation.proofs.ties.count_ties.Given as goal

abbrev pub invariant-loop-i : goal.invariant-loop-i
invariant-loop-i l =
    Folded count (length l.totals) (λ k. get_or l.totals k 0 =? l.at and get_or l.tickets k 0 <? l.x) l.n l.i
