use mathlib.Core.Path.{refl}
use Rattle.model.specs.Counting.{◌<?◌, ◌=?◌, ◌or◌}
use Rattle.model.proofs.limits.counts_out_of_range.Goals as goal

pub returns : goal.returns
unfolding ◌<?◌ ◌=?◌ ◌or◌
returns c = refl
