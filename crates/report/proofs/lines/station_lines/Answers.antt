use native.Mathlib.Omega.{arith}
use Rattle.model.specs.text.Lines.{station_lines, station_line}
use Rattle.sheet.proofs.Wrote.{listing_none, listing_more, listing_end}
use Rattle.report.proofs.lines.Lines.{joined_end, station_short}
use Rattle.report.proofs.lines.station_lines.Goals as goal

pub loop-k-init : goal.loop-k-init
loop-k-init c = listing_none

pub put_three-p-requires : goal.put_three-p-requires
put_three-p-requires c =
    omega (arith, joined_end _ 81 (λ i. station_short _ _ _) _ c.loop-k.invariant.wrote, c.requires)

pub loop-k-preserved : goal.loop-k-preserved
unfolding station_line
loop-k-preserved c = listing_more c.loop-k.invariant c.loop-k-test.true (rw c.from.ensures at c.put_three-p.ensures)

pub returns : goal.returns
unfolding station_lines
returns c = listing_end c.loop-k.invariant (omega arith)
