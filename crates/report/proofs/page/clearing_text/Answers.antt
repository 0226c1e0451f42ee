use native.Mathlib.Omega.{arith}
use Rattle.sheet.proofs.Wrote.{wrote_then}
use Rattle.model.specs.text.Text.{text}
use Rattle.report.proofs.lines.Lines.{wrote_line, line_end_at, guest_lines_end, station_lines_end}
use Rattle.report.proofs.page.clearing_text.Goals as goal

pub guest_lines-b-requires : goal.guest_lines-b-requires
guest_lines-b-requires c = (omega (arith, line_end_at _ _ c.put_line-a.ensures), c.requires.0, c.requires.1)

pub station_lines-c-requires : goal.station_lines-c-requires
station_lines-c-requires c = (
  omega (arith, line_end_at _ _ c.put_line-a.ensures, guest_lines_end _ _ _ c.guest_lines-b.ensures, c.requires.0),
  c.requires.2,
  c.requires.3,
)

pub put_line-requires : goal.put_line-requires
put_line-requires c =
    omega (
      arith,
      line_end_at _ _ c.put_line-a.ensures,
      guest_lines_end _ _ _ c.guest_lines-b.ensures,
      station_lines_end _ _ _ c.station_lines-c.ensures,
      c.requires.0,
      c.requires.2,
    )

pub returns : goal.returns
unfolding text
returns c =
    wrote_line _ _
    (wrote_then (wrote_then (rw c.from.ensures at c.put_line-a.ensures) c.guest_lines-b.ensures)
    c.station_lines-c.ensures)
    c.put_line.ensures
