use mathlib.Core.Path.{◌∙◌}
use Rattle.sheet.proofs.fields.Numbers.{two_bytes, whole_part}
use Rattle.sheet.proofs.fields.Cursor.two.Goals as goal

pub returns : goal.returns
returns c = record {
  value = c.from_le_bytes.ensures ∙ two_bytes _ ∙ whole_part _ _ _ c.bytes.ensures.0;
  moved = c.bytes.ensures.1;
}
