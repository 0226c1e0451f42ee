use native.Mathlib.Omega.{arith}
use Rattle.report.proofs.lines.Lines.{wrote_line}
use Rattle.report.proofs.text.Fields.{field_end}
use Rattle.sheet.proofs.Wrote.{wrote_then}
use Rattle.report.proofs.text.put_three.Goals as goal

pub put_field-q-requires : goal.put_field-q-requires
put_field-q-requires c = omega (arith, field_end _ _ c.put_field-p.ensures)

pub put_line-requires : goal.put_line-requires
put_line-requires c =
    omega (arith, field_end _ _ c.put_field-p.ensures, field_end _ _ c.put_field-q.ensures)

pub returns : goal.returns
returns c = wrote_line _ _ (wrote_then c.put_field-p.ensures c.put_field-q.ensures) c.put_line.ensures
