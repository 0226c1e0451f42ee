use native.Mathlib.Omega.{arith}
use Rattle.model.proofs.sheet.Fields.{ones_count}
use Rattle.words.proofs.count.Goals as goal

-- The processor's count of bits is the definition's.
pub returns : goal.returns
returns c = ones_count 64 c.args.word (omega arith)
