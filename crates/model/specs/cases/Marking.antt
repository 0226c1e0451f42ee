-- The truthful round of Table I, of case E and of a market under either rule with its places and floors; what is marked
-- yes and no of case E, each of the eight spoilt in turn; and the order of the faults.
use Rattle.std.specs.Prelude.{ℕ, Bool, true, false, List, [], ◌∷◌, ◌≡◌, replicate}
use Rattle.model.specs.Verdicts.{Verdict, accepted, refused, first_fault}
use Rattle.model.specs.cases.Cases.{table_i, case_e, pair, numbered, single, tied}
use Rattle.model.specs.cases.Reasons.{six_twice}
use Rattle.model.specs.market.Market.{Tables, regular}
use Rattle.model.specs.market.Marking.{full_results, Submission, submission, round_of, correct, marking_faults}
use Rattle.model.specs.market.Outcome.{results}
use Rattle.model.specs.declared.rule.Rule.TheVariants.{Median, TwoThirds}

-- what is handed in, in the order of the calls
unfoldable pub handed : (stations charges sold paid places floors : List ℕ) (cut margin : ℕ) → Submission
handed stations charges sold paid places floors cut margin =
    submission (full_results (results stations charges sold paid) places floors) cut margin

pub record RoundsHold : Type 0 where
  pub round_1 :
      round_of Median table_i
      ≡ handed (4 ∷ 0 ∷ 2 ∷ 0 ∷ 0 ∷ []) (15 ∷ 0 ∷ 18 ∷ 0 ∷ 0 ∷ []) (0 ∷ 6 ∷ 0 ∷ 5 ∷ 0 ∷ []) (0 ∷ 18 ∷ 0 ∷ 15 ∷ 0 ∷ [])
      (0 ∷ 1 ∷ 0 ∷ 1 ∷ 0
      ∷ 0 ∷ 0 ∷ 0 ∷ 0 ∷ 0
      ∷ 0 ∷ 1 ∷ 0 ∷ 1 ∷ 0
      ∷ 0 ∷ 0 ∷ 0 ∷ 0 ∷ 0
      ∷ 0 ∷ 0 ∷ 0 ∷ 0 ∷ 0 ∷ []) (0 ∷ 16 ∷ 0 ∷ 12 ∷ 0 ∷ []) 3 0
  pub round_e :
      round_of Median case_e
      ≡ handed (1 ∷ 0 ∷ []) (24 ∷ 0 ∷ []) (3 ∷ 0 ∷ []) (18 ∷ 0 ∷ []) (1 ∷ 0 ∷ 0 ∷ 0 ∷ []) (24 ∷ 0 ∷ []) 6 6
  pub round_rule_1 :
      round_of Median six_twice
      ≡ handed (1 ∷ []) (4 ∷ []) (1 ∷ replicate 5 0) (4 ∷ replicate 5 0) (1 ∷ replicate 5 0) (replicate 6 0) 4 0
  pub round_rule_2 :
      round_of TwoThirds six_twice
      ≡ handed (4 ∷ []) (5 ∷ []) (0 ∷ 0 ∷ 0 ∷ 1 ∷ 0 ∷ 0 ∷ []) (0 ∷ 0 ∷ 0 ∷ 5 ∷ 0 ∷ 0 ∷ [])
      (0 ∷ 0 ∷ 0 ∷ 1 ∷ 0 ∷ 0 ∷ []) (replicate 6 0) 5 0

-- case E with one of the eight as it is given here
abbrev pub mark_e : (stations charges sold paid places floors : List ℕ) (cut margin : ℕ) → Bool
mark_e stations charges sold paid places floors cut margin =
    correct Median case_e (handed stations charges sold paid places floors cut margin)

-- as it is; then its seats, charges, kWh, payments, places, floors, cut and margin spoilt; a place of 2; a floor at the
-- station that is not open
abbrev pub marks_of_e : List Bool
marks_of_e =
    mark_e (1 ∷ 0 ∷ []) (24 ∷ 0 ∷ []) (3 ∷ 0 ∷ []) (18 ∷ 0 ∷ []) (1 ∷ 0 ∷ 0 ∷ 0 ∷ []) (24 ∷ 0 ∷ []) 6 6
    ∷ mark_e (0 ∷ 1 ∷ []) (24 ∷ 0 ∷ []) (3 ∷ 0 ∷ []) (18 ∷ 0 ∷ []) (1 ∷ 0 ∷ 0 ∷ 0 ∷ []) (24 ∷ 0 ∷ []) 6 6
    ∷ mark_e (1 ∷ 0 ∷ []) (24 ∷ 1 ∷ []) (3 ∷ 0 ∷ []) (18 ∷ 0 ∷ []) (1 ∷ 0 ∷ 0 ∷ 0 ∷ []) (24 ∷ 0 ∷ []) 6 6
    ∷ mark_e (1 ∷ 0 ∷ []) (24 ∷ 0 ∷ []) (2 ∷ 0 ∷ []) (18 ∷ 0 ∷ []) (1 ∷ 0 ∷ 0 ∷ 0 ∷ []) (24 ∷ 0 ∷ []) 6 6
    ∷ mark_e (1 ∷ 0 ∷ []) (24 ∷ 0 ∷ []) (3 ∷ 0 ∷ []) (18 ∷ 6 ∷ []) (1 ∷ 0 ∷ 0 ∷ 0 ∷ []) (24 ∷ 0 ∷ []) 6 6
    ∷ mark_e (1 ∷ 0 ∷ []) (24 ∷ 0 ∷ []) (3 ∷ 0 ∷ []) (18 ∷ 0 ∷ []) (1 ∷ 0 ∷ 1 ∷ 0 ∷ []) (24 ∷ 0 ∷ []) 6 6
    ∷ mark_e (1 ∷ 0 ∷ []) (24 ∷ 0 ∷ []) (3 ∷ 0 ∷ []) (18 ∷ 0 ∷ []) (1 ∷ 0 ∷ 0 ∷ 0 ∷ []) (18 ∷ 0 ∷ []) 6 6
    ∷ mark_e (1 ∷ 0 ∷ []) (24 ∷ 0 ∷ []) (3 ∷ 0 ∷ []) (18 ∷ 0 ∷ []) (1 ∷ 0 ∷ 0 ∷ 0 ∷ []) (24 ∷ 0 ∷ []) 2 6
    ∷ mark_e (1 ∷ 0 ∷ []) (24 ∷ 0 ∷ []) (3 ∷ 0 ∷ []) (18 ∷ 0 ∷ []) (1 ∷ 0 ∷ 0 ∷ 0 ∷ []) (24 ∷ 0 ∷ []) 6 0
    ∷ mark_e (1 ∷ 0 ∷ []) (24 ∷ 0 ∷ []) (3 ∷ 0 ∷ []) (18 ∷ 0 ∷ []) (2 ∷ 0 ∷ 0 ∷ 0 ∷ []) (24 ∷ 0 ∷ []) 6 6
    ∷ mark_e (1 ∷ 0 ∷ []) (24 ∷ 0 ∷ []) (3 ∷ 0 ∷ []) (18 ∷ 0 ∷ []) (1 ∷ 0 ∷ 0 ∷ 0 ∷ []) (24 ∷ 6 ∷ []) 6 6
    ∷ []

abbrev pub MarksHold : Type 0
MarksHold = marks_of_e ≡ true ∷ replicate 10 false

-- a call under the rule of this number, with lists of so many stations, charges, kWh, payments, places and floors
unfoldable pub judged : (rule : ℕ) → Tables → (stations charges sold paid places floors : ℕ) → Verdict
judged rule t stations charges sold paid places floors =
    first_fault (marking_faults rule t (full_results (results (replicate stations 0) (replicate charges 0)
    (replicate sold 0) (replicate paid 0)) (replicate places 0) (replicate floors 0)))

-- either rule; each list too short and too long; and the order of each number and the next: 18 before 2, 2 before 5, 5
-- before 10, 10 before 6, 6 to 9 in turn, and 15
abbrev pub MarkingsJudged : Type 0
MarkingsJudged =
    (judged 1 case_e 2 2 2 2 4 2 ∷ judged 2 case_e 2 2 2 2 4 2 ∷ [] ≡ accepted tt ∷ accepted tt ∷ [])
    × (judged 1 case_e 1 2 2 2 4 2 ∷ judged 1 case_e 3 2 2 2 4 2 ∷ judged 1 case_e 2 1 2 2 4 2
    ∷ judged 1 case_e 2 3 2 2 4 2 ∷ judged 1 case_e 2 2 1 2 4 2 ∷ judged 1 case_e 2 2 3 2 4 2
    ∷ judged 1 case_e 2 2 2 1 4 2 ∷ judged 1 case_e 2 2 2 3 4 2 ∷ judged 1 case_e 2 2 2 2 3 2
    ∷ judged 1 case_e 2 2 2 2 5 2 ∷ judged 1 case_e 2 2 2 2 4 1 ∷ judged 1 case_e 2 2 2 2 4 3 ∷ []
    ≡ replicate 12 (refused 10))
    × (judged 3 (numbered [] [] [] []) 0 0 0 0 0 0 ∷ judged 1 (numbered [] (1 ∷ []) [] []) 0 0 0 0 0 0
    ∷ judged 1 (pair (1 ∷ []) (8 ∷ [])) 9 1 1 1 1 1 ∷ judged 1 (single 1_000_001 1 1 1) 1 1 1 1 1 0
    ∷ judged 1 (single 1_000_001 0 1 1) 1 1 1 1 1 1 ∷ judged 1 (single 1 0 0 1) 1 1 1 1 1 1
    ∷ judged 1 (single 1 1 0 1_000_001) 1 1 1 1 1 1
    ∷ judged 1 (regular (1 ∷ []) (1 ∷ []) (1 ∷ 1 ∷ []) (7 ∷ 7 ∷ []) (1 ∷ 1_000_001 ∷ [])) 2 2 1 1 2 1
    ∷ judged 1 (tied (9 ∷ 7 ∷ 5 ∷ 9 ∷ [])) 4 4 2 2 8 2 ∷ []
    ≡ refused 18 ∷ refused 2 ∷ refused 5 ∷ refused 10 ∷ refused 6 ∷ refused 7 ∷ refused 8 ∷ refused 9 ∷ refused 15
    ∷ [])
