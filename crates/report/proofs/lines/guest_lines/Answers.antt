use native.Mathlib.Omega.{arith}
use Rattle.model.specs.text.Lines.{guest_lines, guest_line}
use Rattle.sheet.proofs.Wrote.{listing_none, listing_more, listing_end}
use Rattle.report.proofs.lines.Lines.{joined_end, guest_short}
use Rattle.report.proofs.lines.guest_lines.Goals as goal

pub loop-k-init : goal.loop-k-init
loop-k-init c = listing_none

pub put_three-p-requires : goal.put_three-p-requires
put_three-p-requires c =
    omega (arith, joined_end _ 84 (λ i. guest_short _ _ _) _ c.loop-k.invariant.wrote, c.requires)

pub loop-k-preserved : goal.loop-k-preserved
unfolding guest_line
loop-k-preserved c = listing_more c.loop-k.invariant c.loop-k-test.true
    (rw (c.from.ensures, c.from-in-loop-k.ensures) at c.put_three-p.ensures)

pub returns : goal.returns
unfolding guest_lines
returns c = listing_end c.loop-k.invariant (omega arith)
