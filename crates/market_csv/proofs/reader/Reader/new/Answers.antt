use Rattle.std.proofs.Common.{refl, arith}
use Rattle.model.specs.csv.Places.{digits_of}
use Rattle.market_csv.specs.Reached.{past}
use Rattle.market_csv.proofs.reader.Reader.new.Goals as goal

pub invariant_of-result : goal.invariant_of-result
unfolding past digits_of
invariant_of-result c = (omega arith, refl)
