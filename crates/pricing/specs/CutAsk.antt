-- The cut, as a scan of the asks finds it.
use Rattle.std.specs.Prelude.{ℕ, List, get_or, length}
use Rattle.model.specs.Counting.{◌<?◌, only, greatest, count}
use Rattle.model.specs.market.Rules.{position}
use Rattle.model.specs.declared.rule.Rule.{Rule}

-- how many asks lie below x; x where fewer than p do
unfoldable pub under : List ℕ → ℕ → ℕ
under asks x = count (length asks) (λ k. get_or asks k 0 <? x)

unfoldable pub eligible : List ℕ → (p x : ℕ) → ℕ
eligible asks p x = only (under asks x <? p) x

-- the cut of these asks under a rule
unfoldable pub cut_ask : Rule → List ℕ → ℕ
cut_ask rule asks = greatest (length asks) (λ j. eligible asks (position rule (length asks)) (get_or asks j 0))
