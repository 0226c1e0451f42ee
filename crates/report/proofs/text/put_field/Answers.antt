use native.Mathlib.Omega.{arith}
use Rattle.report.proofs.text.Fields.{wrote_field}
use Rattle.report.proofs.text.put_field.Goals as goal

pub returns : goal.returns
returns c =
    wrote_field _ (omega arith) c.put_word-p.ensures c.put_number.ensures
