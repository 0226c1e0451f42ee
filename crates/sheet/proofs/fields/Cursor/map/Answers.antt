use mathlib.Core.Path.{◌≡◌, refl, sym, ◌∙◌}
use native.Mathlib.Omega.{arith}
use Rattle.model.specs.sheet.Fields.{map_width, little_endian}
use Rattle.sheet.proofs.fields.Cursor.map.Goals as goal

pub returns-in-0 : goal.returns-in-0
unfolding little_endian
returns-in-0 c =
    let e : map_width c.args.stations ≡ 0 = sym c.map_width.ensures ∙ c.in-0.is in
    rw e (record { value = refl; moved = record { place = omega arith; sheet = refl } })

pub returns-in_default : goal.returns-in_default
unfolding map_width
returns-in_default c =
    let e : map_width c.args.stations ≡ 5 = omega arith in
    rw e c.number-in_default.ensures
