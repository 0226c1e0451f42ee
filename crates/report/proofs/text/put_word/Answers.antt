use Rattle.sheet.proofs.Wrote.{wrote_next}
use Rattle.report.proofs.text.put_word.Goals as goal

pub loop-b-preserved : goal.loop-b-preserved
loop-b-preserved c = wrote_next _ _ c.loop-b.invariant c.loop-b-test.true c.put-p.ensures
