use Rattle.quiet.proofs.takers.Takers.{passed_is}
use Rattle.quiet.proofs.takers.passed.Goals as goal

pub returns : goal.returns
returns c =
    let (low, bar_low) = c.requires in
    passed_is c.args.priority.0 c.args.bar.0 c.args.x.0 low bar_low
