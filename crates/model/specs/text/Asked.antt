-- What the clearing program's arguments ask for. Document 02, request 6: it uses rule 1, where they name no other.
-- Request 10: it reads a comma-separated market where they say so, else a sheet. An argument is a list of bytes.
use Rattle.std.specs.Prelude.{ℕ, ◌<◌, Bool, true, false, cond, List, [], ◌∷◌, ◌≡◌, get_or, length, Option, Some, None}
use Rattle.model.specs.Counting.{◌=?◌, ◌and◌}
use Rattle.model.specs.declared.page.Layout.{Layout}
use Rattle.model.specs.declared.page.Layout.TheVariants as layout
use Rattle.model.specs.declared.page.Page.{Page}
use Rattle.model.specs.declared.page.Page.TheVariants.{Clearing, Efficient, Reasons, Sheet}
use Rattle.model.specs.declared.page.Asked.{Asked}
use Rattle.model.specs.declared.rule.Rule.{Rule}
use Rattle.model.specs.declared.rule.Rule.TheVariants.{Median, TwoThirds}

-- '--csv', '--quiet', '--why', '--write', '--rule', '1', '2'
abbrev pub csv_word : List ℕ
csv_word = 45 ∷ 45 ∷ 99 ∷ 115 ∷ 118 ∷ []

abbrev pub quiet_word : List ℕ
quiet_word = 45 ∷ 45 ∷ 113 ∷ 117 ∷ 105 ∷ 101 ∷ 116 ∷ []

abbrev pub why_word : List ℕ
why_word = 45 ∷ 45 ∷ 119 ∷ 104 ∷ 121 ∷ []

abbrev pub write_word : List ℕ
write_word = 45 ∷ 45 ∷ 119 ∷ 114 ∷ 105 ∷ 116 ∷ 101 ∷ []

abbrev pub rule_word : List ℕ
rule_word = 45 ∷ 45 ∷ 114 ∷ 117 ∷ 108 ∷ 101 ∷ []

abbrev pub one_word : List ℕ
one_word = 49 ∷ []

abbrev pub two_word : List ℕ
two_word = 50 ∷ []

-- the same bytes
infix 50 ◌spells◌
unfoldable pub ◌spells◌ : (given word : List ℕ) → Bool
[] spells [] = true
[] spells (b ∷ word) = false
(a ∷ given) spells [] = false
(a ∷ given) spells (b ∷ word) = a =? b and given spells word

-- the rule that a number names
unfoldable pub rule_spelt : List ℕ → Option Rule
rule_spelt number =
    cond (number spells one_word) (Some Median) (cond (number spells two_word) (Some TwoThirds) None)

-- the rule that the arguments after the page's own ask for: rule 1 where there are none, else `--rule` and a number
unfoldable pub rule_asked : List (List ℕ) → Option Rule
rule_asked [] = Some Median
rule_asked (option ∷ []) = None
rule_asked (option ∷ number ∷ []) = cond (option spells rule_word) (rule_spelt number) None
rule_asked (option ∷ number ∷ other ∷ rest) = None

abbrev pub asked_for : Layout → Page → Option Asked
asked_for of page = Some (record { layout = of; page = page })

unfoldable pub by_rule : Layout → (Rule → Page) → Option Rule → Option Asked
by_rule of page (Some rule) = asked_for of (page rule)
by_rule of page None = None

-- `--write` stands alone
unfoldable pub sheet_asked : Layout → List (List ℕ) → Option Asked
sheet_asked of [] = asked_for of Sheet
sheet_asked of (other ∷ rest) = None

-- the page that the arguments after the layout's own ask for
unfoldable pub page_asked : Layout → List (List ℕ) → Option Asked
page_asked of [] = by_rule of Clearing (rule_asked [])
page_asked of (first ∷ rest) =
    cond (first spells quiet_word) (by_rule of Efficient (rule_asked rest))
    (cond (first spells why_word) (by_rule of Reasons (rule_asked rest))
    (cond (first spells write_word) (sheet_asked of rest)
    (by_rule of Clearing (rule_asked (first ∷ rest)))))

-- what the arguments ask for: `--csv` comes first
unfoldable pub asked : List (List ℕ) → Option Asked
asked [] = page_asked layout.Sheet []
asked (first ∷ rest) =
    cond (first spells csv_word) (page_asked layout.Csv rest) (page_asked layout.Sheet (first ∷ rest))

-- ---- what is proved

-- where no argument is `--rule`, every page goes by rule 1
pub data ByRuleOne : Option Asked → Type 0 where
  clearing : (of : Layout) → ByRuleOne (asked_for of (Clearing Median))
  efficient : (of : Layout) → ByRuleOne (asked_for of (Efficient Median))
  reasons : (of : Layout) → ByRuleOne (asked_for of (Reasons Median))
  sheet : (of : Layout) → ByRuleOne (asked_for of Sheet)
  nothing : ByRuleOne None

abbrev pub RuleOneUnlessNamed : Type 0
RuleOneUnlessNamed =
    (words : List (List ℕ)) → ((k : ℕ) → k < length words → get_or words k [] spells rule_word ≡ false)
    → ByRuleOne (asked words)

-- where no argument is `--csv`, a sheet is read
pub data OfSheets : Option Asked → Type 0 where
  of_sheet : (page : Page) → OfSheets (asked_for layout.Sheet page)
  nothing : OfSheets None

abbrev pub SheetUnlessNamed : Type 0
SheetUnlessNamed =
    (words : List (List ℕ)) → ((k : ℕ) → k < length words → get_or words k [] spells csv_word ≡ false)
    → OfSheets (asked words)
