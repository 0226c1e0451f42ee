use mathlib.Core.Bool.{false, ◌||◌}
use mathlib.Core.Path.{◌∙◌}
use borrow.Author.Rules.{rules}
use Rattle.std.proofs.lemmas.Iterator.{YieldsList-from_slice}
use Rattle.std.proofs.lemmas.Iterator.Consumers.{fold_from_yields_List}
use Rattle.model.proofs.Scans.{fold_some}
use Rattle.checks.specs.Ranges.{beyond, some_outside}
use Rattle.checks.proofs.scans.any_outside.Goals as goal

pub returns : goal.returns
unfolding some_outside
returns g c =
    fold_from_yields_List _ (λ bad x. bad || beyond g.T.PartialOrd.partial_cmp c.args.low c.args.high x) false _
    c.fold.ensures.ran (YieldsList-from_slice c.args.xs.now cc) (λ a x b q k. search rules)
    ∙ fold_some (beyond g.T.PartialOrd.partial_cmp c.args.low c.args.high) c.args.low c.args.xs.now
