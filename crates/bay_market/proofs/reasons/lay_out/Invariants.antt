use Rattle.bay_market.proofs.Explained.{Laying}
use Rattle.bay_market.proofs.reasons.lay_out.Given as goal

-- The loop: the records of the first i guests are laid out.
abbrev pub invariant-loop-i : goal.invariant-loop-i
invariant-loop-i l =
    Laying l.told l.initial.stations l.initial.charges l.initial.reasons l.stations l.charges l.reasons l.i
