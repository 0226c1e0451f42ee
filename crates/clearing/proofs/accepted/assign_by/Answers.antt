use Rattle.clearing.specs.Decided.{decided, HasBars}
use Rattle.clearing.proofs.accepted.assign_by.Goals as goal

pub returns-in-Truthful : goal.returns-in-Truthful
unfolding decided HasBars
returns-in-Truthful c =
    rw c.in-Truthful.is c.assign_with_bars.ensures

pub returns-in-Efficient : goal.returns-in-Efficient
unfolding decided HasBars
returns-in-Efficient c =
    rw c.in-Efficient.is (c.assign_all_efficient.ensures, tt)
