-- The codes and outcomes of Table I and of case E under rule 1, and of a market under either; the page of case E, byte
-- by byte; and the order of an explanation's faults.
use Rattle.std.specs.Prelude.{ℕ, List, [], ◌∷◌, ◌≡◌, replicate}
use Rattle.model.specs.Verdicts.{Verdict, accepted, refused, first_fault}
use Rattle.model.specs.cases.Cases.{table_i, case_e, pair, numbered, single, tied, six}
use Rattle.model.specs.market.Market.{Tables, regular}
use Rattle.model.specs.market.Faults.{explaining_faults}
use Rattle.model.specs.cases.Sheets.{sheet_e}
use Rattle.model.specs.market.Reasons.{codes, outcome_table, guest_outcomes}
use Rattle.model.specs.text.Printed.{printed}
use Rattle.model.specs.declared.rule.Rule.TheVariants.{Median, TwoThirds}
use Rattle.model.specs.declared.page.Layout.TheVariants as layout
use Rattle.model.specs.declared.page.Page.TheVariants.{Reasons}

-- guest 1 wins station 1 charge 24
-- guest 2 loses: outbid
unfoldable pub reasons_e : List ℕ
reasons_e =
    103 ∷ 117 ∷ 101 ∷ 115 ∷ 116 ∷ 32 ∷ 49 ∷ 32 ∷ 119 ∷ 105 ∷ 110 ∷ 115 ∷ 32 ∷ 115 ∷ 116 ∷ 97 ∷ 116 ∷ 105 ∷ 111
    ∷ 110 ∷ 32 ∷ 49 ∷ 32 ∷ 99 ∷ 104 ∷ 97 ∷ 114 ∷ 103 ∷ 101 ∷ 32 ∷ 50 ∷ 52 ∷ 10
    ∷ 103 ∷ 117 ∷ 101 ∷ 115 ∷ 116 ∷ 32 ∷ 50 ∷ 32 ∷ 108 ∷ 111 ∷ 115 ∷ 101 ∷ 115 ∷ 58 ∷ 32 ∷ 111 ∷ 117 ∷ 116 ∷ 98
    ∷ 105 ∷ 100 ∷ 10
    ∷ []

-- asks 1 to 6, bids 4 and 9 at the first station and the fourth: under rule 1 the cut is 4 and the fourth is not open,
-- under rule 2 the cut is 5 and the first bid below it
unfoldable pub six_twice : Tables
six_twice = six (4 ∷ 0 ∷ 0 ∷ 9 ∷ 0 ∷ 0 ∷ [])

pub record ReasonsHold : Type 0 where
  pub codes_1 :
      codes Median table_i
      ≡ 1 ∷ 0 ∷ 1 ∷ 0 ∷ 2
      ∷ 2 ∷ 1 ∷ 2 ∷ 3 ∷ 1
      ∷ 2 ∷ 0 ∷ 1 ∷ 0 ∷ 1
      ∷ 2 ∷ 4 ∷ 1 ∷ 4 ∷ 1
      ∷ 1 ∷ 1 ∷ 2 ∷ 4 ∷ 2 ∷ []
  pub outcomes_1 :
      guest_outcomes Median table_i
      ≡ outcome_table (4 ∷ 0 ∷ 2 ∷ 0 ∷ 0 ∷ []) (15 ∷ 0 ∷ 18 ∷ 0 ∷ 0 ∷ []) (0 ∷ 3 ∷ 0 ∷ 4 ∷ 4 ∷ [])
  pub codes_e : codes Median case_e ≡ 0 ∷ 1 ∷ 4 ∷ 1 ∷ []
  pub outcomes_e : guest_outcomes Median case_e ≡ outcome_table (1 ∷ 0 ∷ []) (24 ∷ 0 ∷ []) (0 ∷ 4 ∷ [])
  pub page_e : printed layout.Sheet (Reasons Median) 38 sheet_e ≡ reasons_e
  pub codes_rule_1 : codes Median six_twice ≡ 0 ∷ 1 ∷ 1 ∷ 2 ∷ 1 ∷ 1 ∷ []
  pub outcomes_rule_1 : guest_outcomes Median six_twice ≡ outcome_table (1 ∷ []) (4 ∷ []) (0 ∷ [])
  pub codes_rule_2 : codes TwoThirds six_twice ≡ 3 ∷ 1 ∷ 1 ∷ 0 ∷ 1 ∷ 1 ∷ []
  pub outcomes_rule_2 : guest_outcomes TwoThirds six_twice ≡ outcome_table (4 ∷ []) (5 ∷ []) (0 ∷ [])

-- a call under the rule of this number, with a code table of so many places and lists of so many stations, charges and
-- reasons
unfoldable pub judged : (rule : ℕ) → Tables → (codes stations charges reasons : ℕ) → Verdict
judged rule t codes stations charges reasons =
    first_fault (explaining_faults rule t codes (stations ∷ charges ∷ reasons ∷ []))

-- either rule; each table too short and too long; and the order of each number and the next: 18 before 2, 2 before 5, 5
-- before 10, 10 before 6, 6 to 9 in turn, and 15
abbrev pub ExplainingsJudged : Type 0
ExplainingsJudged =
    (judged 1 case_e 4 2 2 2 ∷ judged 2 case_e 4 2 2 2 ∷ [] ≡ accepted tt ∷ accepted tt ∷ [])
    × (judged 1 case_e 3 2 2 2 ∷ judged 1 case_e 5 2 2 2 ∷ judged 1 case_e 4 1 2 2 ∷ judged 1 case_e 4 3 2 2
    ∷ judged 1 case_e 4 2 1 2 ∷ judged 1 case_e 4 2 3 2 ∷ judged 1 case_e 4 2 2 1 ∷ judged 1 case_e 4 2 2 3 ∷ []
    ≡ replicate 8 (refused 10))
    × (judged 3 (numbered [] [] [] []) 0 0 0 0 ∷ judged 1 (numbered [] (1 ∷ []) [] []) 0 0 0 0
    ∷ judged 1 (pair (1 ∷ []) (8 ∷ [])) 9 1 1 1 ∷ judged 1 (single 1_000_001 1 1 1) 0 1 1 1
    ∷ judged 1 (single 1_000_001 0 1 1) 1 1 1 1 ∷ judged 1 (single 1 0 0 1) 1 1 1 1
    ∷ judged 1 (single 1 1 0 1_000_001) 1 1 1 1
    ∷ judged 1 (regular (1 ∷ []) (1 ∷ []) (1 ∷ 1 ∷ []) (7 ∷ 7 ∷ []) (1 ∷ 1_000_001 ∷ [])) 2 2 2 2
    ∷ judged 1 (tied (9 ∷ 7 ∷ 5 ∷ 9 ∷ [])) 8 4 4 4 ∷ []
    ≡ refused 18 ∷ refused 2 ∷ refused 5 ∷ refused 10 ∷ refused 6 ∷ refused 7 ∷ refused 8 ∷ refused 9 ∷ refused 15
    ∷ [])
