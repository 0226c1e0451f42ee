-- Another row tried: a worked instance of the statements of claims/OtherRows.antt, under rule 1, and the order of
-- faults.
use Rattle.std.specs.Prelude.{ℕ, ◌≤◌, List, [], ◌∷◌, ◌≡◌, pos, negsuc, replicate}
use Rattle.model.specs.Verdicts.{Verdict, accepted, refused, first_fault}
use Rattle.model.specs.market.Market.{Tables}
use Rattle.model.specs.market.Rules.{median}
use Rattle.model.specs.market.Changes.{with_row, changes_with, changed, places_changed, trying_faults, both_gains}
use Rattle.model.specs.claims.Truth.{holds_by}
use Rattle.model.specs.declared.rule.Rule.TheVariants.{Median}
use Rattle.model.specs.cases.Cases.{single, case_g}
use Rattle.model.specs.cases.Instances.{overbid}

-- guest 2 of case G, worth 10 per kWh at station 1, tries 14: it takes the bay from guest 1 for 27 and is worth 20, so
-- that it loses 7. One place of its own changed, and one other guest. Back from 14 to 10 it is the other way round
pub record RowInstance : Type 0 where
  pub tried_is : with_row case_g 1 (14 ∷ 0 ∷ []) ≡ overbid
  pub gains_are : both_gains Median case_g 2 (10 ∷ 0 ∷ []) (14 ∷ 0 ∷ []) ≡ (pos 0, negsuc 6)
  pub changes_are : changes_with Median case_g 1 (14 ∷ 0 ∷ []) ≡ 2 ∷ 0 ∷ []
  pub places_are : places_changed 2 (holds_by median case_g 1) (holds_by median overbid 1) ≡ 1
  pub few : changed (2 ∷ 0 ∷ []) ≤ 1
  pub gains_back : both_gains Median overbid 2 (10 ∷ 0 ∷ []) (10 ∷ 0 ∷ []) ≡ (negsuc 6, pos 0)
  pub changes_back : changes_with Median overbid 1 (10 ∷ 0 ∷ []) ≡ 1 ∷ 0 ∷ []

-- a call with a list of changes of so many places
unfoldable pub judged : (rule : ℕ) → Tables → (guest : ℕ) (worths row : List ℕ) (changes : ℕ) → Verdict
judged rule t guest worths row changes = first_fault (trying_faults rule t guest worths row changes)

-- the limits; guest numbers, lengths and prices beyond them; and the order of each number and the next: 18 before the
-- market's own, those before 24, 24 before 5, 5 before 10, 10 before 9
abbrev pub TryingsJudged : Type 0
TryingsJudged =
    (judged 1 case_g 1 (10 ∷ 0 ∷ []) (1000000 ∷ 1000000 ∷ []) 2
    ∷ judged 2 case_g 2 (1000000 ∷ 1000000 ∷ []) (0 ∷ 0 ∷ []) 2 ∷ []
    ≡ replicate 2 (accepted tt))
    × (judged 1 case_g 0 (10 ∷ 0 ∷ []) (14 ∷ 0 ∷ []) 2 ∷ judged 1 case_g 3 (10 ∷ 0 ∷ []) (14 ∷ 0 ∷ []) 2 ∷ []
    ≡ replicate 2 (refused 24))
    × (judged 1 case_g 2 (10 ∷ []) (14 ∷ 0 ∷ []) 2 ∷ judged 1 case_g 2 (10 ∷ 0 ∷ 0 ∷ []) (14 ∷ 0 ∷ []) 2
    ∷ judged 1 case_g 2 (10 ∷ 0 ∷ []) (14 ∷ []) 2 ∷ judged 1 case_g 2 (10 ∷ 0 ∷ []) (14 ∷ 0 ∷ 0 ∷ []) 2 ∷ []
    ≡ replicate 4 (refused 5))
    × (judged 1 case_g 2 (10 ∷ 0 ∷ []) (14 ∷ 0 ∷ []) 1 ∷ judged 1 case_g 2 (10 ∷ 0 ∷ []) (14 ∷ 0 ∷ []) 3 ∷ []
    ≡ replicate 2 (refused 10))
    × (judged 1 case_g 2 (1000001 ∷ 0 ∷ []) (14 ∷ 0 ∷ []) 2 ∷ judged 1 case_g 2 (10 ∷ 1000001 ∷ []) (14 ∷ 0 ∷ []) 2
    ∷ judged 1 case_g 2 (10 ∷ 0 ∷ []) (1000001 ∷ 0 ∷ []) 2 ∷ judged 1 case_g 2 (10 ∷ 0 ∷ []) (14 ∷ 1000001 ∷ []) 2 ∷ []
    ≡ replicate 4 (refused 9))
    × (judged 3 (single 1 1 0 1) 0 [] [] 0 ∷ judged 1 (single 1 1 0 1) 0 [] [] 0 ∷ judged 1 case_g 0 [] [] 0
    ∷ judged 1 case_g 2 (1000001 ∷ []) [] 0 ∷ judged 1 case_g 2 (1000001 ∷ 0 ∷ []) (14 ∷ 0 ∷ []) 0 ∷ []
    ≡ refused 18 ∷ refused 8 ∷ refused 24 ∷ refused 5 ∷ refused 10 ∷ [])
