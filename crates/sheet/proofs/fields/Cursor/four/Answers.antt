use mathlib.Core.Path.{◌∙◌}
use Rattle.sheet.proofs.fields.Numbers.{four_bytes, whole_part}
use Rattle.sheet.proofs.fields.Cursor.four.Goals as goal

pub returns : goal.returns
returns c = record {
  value = c.from_le_bytes.ensures ∙ four_bytes _ ∙ whole_part _ _ _ c.bytes.ensures.0;
  moved = c.bytes.ensures.1;
}
