use mathlib.Core.Bool.{false, ◌||◌}
use mathlib.Core.Path.{◌∙◌}
use borrow.Author.Rules.{rules}
use lib.Dec.{eqb}
use lib.ListN.{get_or, take}
use Rattle.std.proofs.lemmas.Iterator.{YieldsList-from_slice}
use Rattle.std.proofs.lemmas.Iterator.Consumers.{fold_from_yields_List}
use Rattle.model.proofs.Scans.{fold_some}
use Rattle.checks.proofs.tickets.Tickets.{stands_among}
use Rattle.checks.proofs.tickets.stands_before.Goals as goal

pub returns : goal.returns
returns c =
    fold_from_yields_List _ (λ found x. found || eqb x (get_or c.args.tickets.now c.args.k 0)) false _
    c.fold.ensures.ran (YieldsList-from_slice (take c.args.k c.args.tickets.now) cc) (λ a x b q k. search rules)
    ∙ fold_some (λ x. eqb x (get_or c.args.tickets.now c.args.k 0)) 0 (take c.args.k c.args.tickets.now)
    ∙ stands_among _ _ c.requires
