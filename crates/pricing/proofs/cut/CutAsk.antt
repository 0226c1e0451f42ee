-- Laws of the cut.
use Prim.Native.Nat.{ℕ, ◌≤◌, ◌<◌}
use mathlib.Core.List.{List}
use mathlib.Core.Path.{◌≡◌, refl}
use native.Mathlib.Omega.{arith}
use lib.ListN.{length}
use Rattle.model.specs.Limits.{max_price}
use Rattle.model.specs.market.Market.{Tables, market_by, market, cut}
use Rattle.model.specs.claims.Meaning.{WithinLimits}
use Rattle.model.specs.declared.rule.Rule.{Rule}
use Rattle.model.proofs.Tests.{only_yes, only_no, only_le, is_lt, not_lt}
use Rattle.model.proofs.Counting.{greatest_le}
use Rattle.pricing.specs.CutAsk.{under, eligible, cut_ask}

pub eligible_yes : (asks : List ℕ) (p x n : ℕ) → n ≡ under asks x → n < p → eligible asks p x ≡ x
unfolding eligible
eligible_yes asks p x n e l = only_yes _ x (is_lt _ _ (omega arith))

pub eligible_no : (asks : List ℕ) (p x n : ℕ) → n ≡ under asks x → p ≤ n → eligible asks p x ≡ 0
unfolding eligible
eligible_no asks p x n e l = only_no _ x (not_lt _ _ (omega arith))

-- the scan's cut is the market's, and within the limits
pub cut_is : (rule : Rule) (t : Tables) → cut_ask rule t.asks ≡ cut (market rule t)
unfolding cut_ask eligible under cut market market_by
cut_is rule t = refl

pub cut_low : (rule : Rule) (t : Tables) (c : ℕ) → WithinLimits t → c ≡ cut_ask rule t.asks → c ≤ max_price
unfolding cut_ask eligible
cut_low rule t c w e =
    rw e (greatest_le (length t.asks) _ max_price (λ k l. only_le _ _ _ (λ _. w.ask_most k l)))
