use native.Mathlib.Omega.{arith}
use Rattle.sheet.proofs.Wrote.{listing_none, listing_more, listing_end}
use Rattle.report.proofs.lines.Lines.{joined_end}
use Rattle.report.proofs.reasons.Reasons.{record_short}
use Rattle.report.proofs.reasons.reasons_text.Goals as goal

pub loop-k-init : goal.loop-k-init
loop-k-init c = listing_none

pub outcome_line-p-requires : goal.outcome_line-p-requires
outcome_line-p-requires c =
    omega (arith, joined_end _ 89 (λ i. record_short _ _) _ c.loop-k.invariant.wrote, c.loop-k-test.true, c.requires)

pub loop-k-preserved : goal.loop-k-preserved
loop-k-preserved c =
    listing_more c.loop-k.invariant c.loop-k-test.true
    (rw (← c.outcome_at-outcome.ensures) c.outcome_line-p.ensures)

pub returns : goal.returns
returns c = listing_end c.loop-k.invariant (omega arith)
