use Prim.Native.Nat.{ℕ, ◌+◌}
use mathlib.Core.Path.{refl, ◌∙◌}
use native.Mathlib.Omega.{arith}
use borrow.Author.Rules.{rules}
use borrow.Author.Tests.{tests}
use Rattle.std.proofs.lemmas.Iterator.{YieldsList-from_slice, YieldsList-from_zip}
use Rattle.std.proofs.lemmas.Iterator.Search.{any_from_yields_List}
use Rattle.model.specs.Limits.{max_account}
use Rattle.model.specs.Counting.{◌<?◌}
use Rattle.model.specs.book.Book.{account, sold_of, paid_of}
use Rattle.model.specs.declared.account.StationAccount.{StationAccount}
use Rattle.model.proofs.Loops.{either_is}
use Rattle.ledger.proofs.Pairs.{exceeding_shown}
use Rattle.ledger.proofs.stations.any_exceeds.Goals as goal

pub returns : goal.returns
unfolding sold_of paid_of
returns c = either_is
    (any_from_yields_List (λ (p : StationAccount × ℕ). max_account <? p.0.sold + p.1) c.any-sold.new.self _ _
    c.any-sold.ensures.ran
    (YieldsList-from_zip {s = c.zip.result} (YieldsList-from_slice c.args.stations.now cc)
    (YieldsList-from_slice c.args.r.now.sold cc)) (λ x b q k. search (rules, tests))
    ∙ exceeding_shown (λ (a : StationAccount). a.sold) (account 0 0) refl _ _ (omega arith))
    (any_from_yields_List (λ (p : StationAccount × ℕ). max_account <? p.0.paid + p.1) c.any-paid.new.self _ _
    c.any-paid.ensures.ran
    (YieldsList-from_zip {s = c.zip-2.result} (YieldsList-from_slice c.args.stations.now cc)
    (YieldsList-from_slice c.args.r.now.paid cc)) (λ x b q k. search (rules, tests))
    ∙ exceeding_shown (λ (a : StationAccount). a.paid) (account 0 0) refl _ _ (omega arith))
