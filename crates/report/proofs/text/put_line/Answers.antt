use native.Mathlib.Omega.{arith}
use Rattle.report.proofs.text.Fields.{field_end}
use Rattle.sheet.proofs.Wrote.{wrote_then}
use Rattle.report.proofs.text.put_line.Goals as goal

pub put-requires : goal.put-requires
put-requires c = omega (arith, field_end _ _ c.put_field-p.ensures)

pub returns : goal.returns
returns c = wrote_then c.put_field-p.ensures c.put.ensures
