use Rattle.std.proofs.Common.{length}
use Rattle.quiet.specs.Criticals.{passed_over, Renewed}
use Rattle.quiet.proofs.criticals.raise_all.Given as goal

abbrev pub invariant-loop-i : goal.invariant-loop-i
invariant-loop-i l =
    let t = l.round.market.now in
    Renewed (length t.asks) (passed_over t.amounts t.bids l.chosen (length t.asks) l.round.cut.0 l.i)
    l.initial.criticals l.criticals
