-- The rules for the position of the cut, each by the number of stations alone. Document 02, request 6.
use Rattle.std.specs.Prelude.{ℕ, ◌+◌, ◌*◌, ◌/◌, Bool, true, false, cond, Result, Ok, Err}
use Rattle.model.specs.Counting.{◌=?◌}
use Rattle.model.specs.declared.rule.Rule.{Rule}
use Rattle.model.specs.declared.rule.Rule.TheVariants.{Median, TwoThirds}
use Rattle.model.specs.declared.refusal.Refusal.{Refusal}
use Rattle.model.specs.declared.refusal.Refusal.TheVariants.{UnknownRule}

-- rule 1: ceil((m + 1) / 2)
unfoldable pub median : ℕ → ℕ
median m = (m + 1 + 1) / 2

-- rule 2: floor(2 m / 3) + 1
unfoldable pub two_thirds : ℕ → ℕ
two_thirds m = 2 * m / 3 + 1

unfoldable pub position : Rule → ℕ → ℕ
position Median = median
position TwoThirds = two_thirds

-- the rule that a call or a posting names by its number
unfoldable pub named : ℕ → Result Rule Refusal
named k = cond (k =? 1) (Ok Median) (cond (k =? 2) (Ok TwoThirds) (Err UnknownRule))

unfoldable pub is_unknown : Result Rule Refusal → Bool
is_unknown (Ok rule) = false
is_unknown (Err refusal) = true

-- the rule by which a market is cleared. Where the number names none the call is refused (`unknown_rule`), so that it
-- does not matter which is given
unfoldable pub rule_in : Result Rule Refusal → Rule
rule_in (Ok rule) = rule
rule_in (Err refusal) = Median

abbrev pub rule_of : ℕ → Rule
rule_of k = rule_in (named k)
