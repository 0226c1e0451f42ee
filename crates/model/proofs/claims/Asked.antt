-- What the program's arguments ask for, proved: rule 1 where no other is named, and a sheet where `--csv` is not.
use Prim.Native.Nat.{ℕ, suc, ◌<◌}
use mathlib.Core.Bool.{Bool, true, false, cond}
use mathlib.Core.List.{List, [], ◌∷◌}
use mathlib.Core.Path.{◌≡◌}
use native.Mathlib.Omega.{arith}
use lib.ListN.{get_or, length}
use Rattle.model.specs.text.Asked.{csv_word, quiet_word, why_word, write_word, rule_word, ◌spells◌, rule_asked, by_rule}
use Rattle.model.specs.text.Asked.{asked_for}
use Rattle.model.specs.text.Asked.{sheet_asked, page_asked, asked, ByRuleOne, clearing, efficient, reasons, sheet}
use Rattle.model.specs.text.Asked.{RuleOneUnlessNamed, OfSheets, of_sheet, SheetUnlessNamed}
use Rattle.model.specs.declared.page.Layout.{Layout}
use Rattle.model.specs.declared.page.Layout.TheVariants as layout
use Rattle.model.specs.declared.page.Page.{Page}
use Rattle.model.specs.declared.page.Page.TheVariants.{Clearing, Efficient, Reasons}
use Rattle.model.specs.declared.page.Asked.{Asked}
use Rattle.model.specs.declared.rule.Rule.{Rule}
use Rattle.model.specs.declared.rule.Rule.TheVariants.{Median}
use Rattle.std.specs.Prelude.{Option, Some, None}

either : (P : Option Asked → Type 0) {a b : Option Asked} (test : Bool) → P a → P b → P (cond test a b)
either P true h k = h
either P false h k = k

-- ---- rule 1

abbrev Unnamed : List (List ℕ) → Type 0
Unnamed words = (k : ℕ) → k < length words → get_or words k [] spells rule_word ≡ false

module _ (of : Layout) where
  ruled :
      (page : Rule → Page) → ByRuleOne (asked_for of (page Median)) → (words : List (List ℕ)) → Unnamed words
      → ByRuleOne (by_rule of page (rule_asked words))
  unfolding by_rule rule_asked
  ruled page h [] n = h
  ruled page h (option ∷ []) n = ByRuleOne.nothing
  ruled page h (option ∷ number ∷ []) n = rw (n 0 (omega arith)) ByRuleOne.nothing
  ruled page h (option ∷ number ∷ other ∷ rest) n = ByRuleOne.nothing

  alone : (words : List (List ℕ)) → ByRuleOne (sheet_asked of words)
  unfolding sheet_asked
  alone [] = sheet of
  alone (other ∷ rest) = ByRuleOne.nothing

  page_by_one : (words : List (List ℕ)) → Unnamed words → ByRuleOne (page_asked of words)
  unfolding page_asked
  page_by_one [] n = ruled Clearing (clearing of) [] n
  page_by_one (first ∷ rest) n =
      let after : Unnamed rest = λ k l. n (suc k) (omega arith) in
      either ByRuleOne (first spells quiet_word) (ruled Efficient (efficient of) rest after)
      (either ByRuleOne (first spells why_word) (ruled Reasons (reasons of) rest after)
      (either ByRuleOne (first spells write_word) (alone rest) (ruled Clearing (clearing of) (first ∷ rest) n)))

pub rule_one_unless_named : RuleOneUnlessNamed
unfolding asked
rule_one_unless_named [] n = page_by_one layout.Sheet [] n
rule_one_unless_named (first ∷ rest) n =
    let after : Unnamed rest = λ k l. n (suc k) (omega arith) in
    either ByRuleOne (first spells csv_word) (page_by_one layout.Csv rest after)
    (page_by_one layout.Sheet (first ∷ rest) n)

-- ---- a sheet

by_rule_lem : (page : Rule → Page) (named : Option Rule) → OfSheets (by_rule layout.Sheet page named)
unfolding by_rule
by_rule_lem page (Some rule) = of_sheet (page rule)
by_rule_lem page None = OfSheets.nothing

sheet_alone : (words : List (List ℕ)) → OfSheets (sheet_asked layout.Sheet words)
unfolding sheet_asked
sheet_alone [] = of_sheet _
sheet_alone (other ∷ rest) = OfSheets.nothing

page_of_sheet : (words : List (List ℕ)) → OfSheets (page_asked layout.Sheet words)
unfolding page_asked
page_of_sheet [] = by_rule_lem Clearing _
page_of_sheet (first ∷ rest) =
    either OfSheets (first spells quiet_word) (by_rule_lem Efficient _)
    (either OfSheets (first spells why_word) (by_rule_lem Reasons _)
    (either OfSheets (first spells write_word) (sheet_alone rest) (by_rule_lem Clearing _)))

pub sheet_unless_named : SheetUnlessNamed
unfolding asked
sheet_unless_named [] n = page_of_sheet []
sheet_unless_named (first ∷ rest) n = rw (n 0 (omega arith)) (page_of_sheet (first ∷ rest))
