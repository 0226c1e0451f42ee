use Prim.Native.Nat.{ℕ, ◌+◌}
use mathlib.Core.Path.{◌∙◌}
use native.Mathlib.Omega.{arith}
use borrow.Author.Rules.{rules}
use borrow.Author.Tests.{tests}
use Rattle.std.proofs.lemmas.Iterator.{YieldsList-from_slice, YieldsList-from_zip}
use Rattle.std.proofs.lemmas.Iterator.Search.{any_from_yields_List}
use Rattle.model.specs.Limits.{max_account}
use Rattle.model.specs.Counting.{◌<?◌}
use Rattle.ledger.specs.Room.{exceeding}
use Rattle.ledger.proofs.Pairs.{some_pair}
use Rattle.ledger.proofs.accounts.any_exceeds.Goals as goal

pub returns : goal.returns
unfolding exceeding
returns c =
    any_from_yields_List (λ (p : ℕ × ℕ). max_account <? p.0 + p.1) c.any.new.self _ _ c.any.ensures.ran
    (YieldsList-from_zip {s = c.zip.result} (YieldsList-from_slice c.args.accounts.now cc)
    (YieldsList-from_slice c.args.charges.now cc))
    (λ x b q k. search (rules, tests))
    ∙ some_pair 0 (λ x y. max_account <? x + y) _ _ (omega arith)
