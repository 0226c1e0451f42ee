use mathlib.Core.Bool.{false, not, ◌||◌}
use mathlib.Core.Path.{◌≡◌, ap, ◌∙◌}
use native.Mathlib.Nat.{le_refl}
use borrow.Author.Tests.{tests}
use borrow.Author.Rules.{rules}
use lib.Dec.{leb}
use lib.ListN.{drop, length}
use Rattle.std.specs.List.{zip}
use Rattle.std.proofs.lemmas.Slice.{between_to_end}
use Rattle.std.proofs.lemmas.Iterator.{YieldsList-from_slice, YieldsList-from_zip}
use Rattle.std.proofs.lemmas.Iterator.Consumers.{fold_from_yields_List}
use Rattle.model.proofs.Scans.{fold_some}
use Rattle.checks.proofs.tickets.Tickets.{rising_empty, rising_next}
use Rattle.checks.proofs.tickets.rising.Goals as goal

pub returns-then-is_empty : goal.returns-then-is_empty
returns-then-is_empty c =
    let none : length c.args.tickets.now ≡ 0 = search (rules, tests) in c.if-is_empty.true ∙ rising_empty _ none

pub returns-else-is_empty : goal.returns-else-is_empty
returns-else-is_empty c =
    ap not (fold_from_yields_List _ (λ falls p. falls || leb p.1 p.0) false _ c.fold.ensures.ran
    (YieldsList-from_zip (YieldsList-from_slice c.args.tickets.now cc)
    (YieldsList-from_slice (drop 1 c.args.tickets.now)
    (c.zip.ensures.second.0 ∙ between_to_end c.args.tickets.now 1 _ (le_refl _))))
    (λ a x b q k. search rules)
    ∙ fold_some (λ p. leb p.1 p.0) (0, 0) (zip c.args.tickets.now (drop 1 c.args.tickets.now)))
    ∙ rising_next _
