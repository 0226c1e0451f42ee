use mathlib.Core.Path.{◌∙◌, ap}
use lib.ListN.{length}
use Rattle.sheet.proofs.fields.Numbers.{in_word, whole_part, part_long}
use Rattle.sheet.proofs.fields.Cursor.number.Goals as goal

pub returns : goal.returns
returns g c =
    let e = c.copy_from_slice.ensures.after ∙ c.bytes-bytes.ensures.0 in
    record {
      value = c.from_le_bytes.ensures
          ∙ in_word c.copy_from_slice.new.self g.row.N c.requires.0 (ap length e ∙ part_long _ _ _ c.requires.1)
          ∙ whole_part _ _ _ e;
      moved = c.bytes-bytes.ensures.1;
    }
