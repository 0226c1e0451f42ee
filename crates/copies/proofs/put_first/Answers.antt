use Rattle.copies.proofs.Pasting.{pasting_turn}
use Rattle.copies.proofs.put_first.Goals as goal

pub loop-i-preserved : goal.loop-i-preserved
loop-i-preserved g c =
    pasting_turn c.loop-i.invariant c.index-from-i.result c.loop-i-test.true c.index-from-i.is
