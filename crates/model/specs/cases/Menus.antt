-- The price list of Table I's guest 1, of case G's guest 2 and of a guest that is alone, with gains by them; and the
-- order of faults.
use Rattle.std.specs.Prelude.{ℕ, List, [], ◌∷◌, ◌≡◌, pos, negsuc, replicate}
use Rattle.model.specs.Verdicts.{Verdict, accepted, refused, first_fault}
use Rattle.model.specs.market.Market.{Tables}
use Rattle.model.specs.market.Rules.{median}
use Rattle.model.specs.market.Menus.{no_bar, price_list, price_list_by, gains_from, listing_faults, gaining_faults}
use Rattle.model.specs.cases.Cases.{numbered, single, table_i, case_g}

-- one guest, two open stations at one price
unfoldable pub alone : Tables
alone = numbered (1 ∷ 1 ∷ 6 ∷ 6 ∷ []) (1 ∷ 1 ∷ 1 ∷ 1 ∷ []) (1 ∷ []) (8 ∷ 8 ∷ 0 ∷ 0 ∷ [])

-- Table I, guest 1, with 5 kWh: station 2 for 16 from a total of 16 on, station 4 for 15 from 15 on; the others are not
-- open. Its worths gain 25 less 15; without its bid at station 4, or with 9 at station 2, it gains 20 less 16; without
-- bids nothing.
-- Case G, guest 2, with 2 kWh: guest 1 wins a tie, so that the bar is one above the price. Worth 10, it gains nothing;
-- with 14 it loses 7.
-- Alone with two equal offers a guest has the lower station, whatever its worths are
pub record ListsHold : Type 0 where
  pub list_1 :
      price_list_by median table_i 0
      ≡ price_list (no_bar ∷ 16 ∷ no_bar ∷ 15 ∷ no_bar ∷ []) (0 ∷ 16 ∷ 0 ∷ 15 ∷ 0 ∷ [])
  pub gains_1 :
      gains_from (price_list_by median table_i 0) 5 (0 ∷ 4 ∷ 0 ∷ 5 ∷ 2 ∷ []) 5
      (0 ∷ 4 ∷ 0 ∷ 5 ∷ 2
      ∷ 0 ∷ 4 ∷ 0 ∷ 0 ∷ 2
      ∷ 0 ∷ 9 ∷ 0 ∷ 5 ∷ 2
      ∷ 0 ∷ 0 ∷ 0 ∷ 0 ∷ 0 ∷ []) 4
      ≡ pos 10 ∷ pos 4 ∷ pos 4 ∷ pos 0 ∷ []
  pub list_g : price_list_by median case_g 1 ≡ price_list (28 ∷ no_bar ∷ []) (27 ∷ 0 ∷ [])
  pub gains_g :
      gains_from (price_list_by median case_g 1) 2 (10 ∷ 0 ∷ []) 2 (10 ∷ 0 ∷ 14 ∷ 0 ∷ []) 2 ≡ pos 0 ∷ negsuc 6 ∷ []
  pub list_alone : price_list_by median alone 0 ≡ price_list (6 ∷ 6 ∷ no_bar ∷ no_bar ∷ []) (6 ∷ 6 ∷ 0 ∷ 0 ∷ [])
  pub gains_alone :
      gains_from (price_list_by median alone 0) 1 (7 ∷ 9 ∷ 0 ∷ 0 ∷ []) 4 (8 ∷ 8 ∷ 0 ∷ 0 ∷ 7 ∷ 9 ∷ 0 ∷ 0 ∷ []) 2
      ≡ pos 1 ∷ pos 3 ∷ []

-- calls with lists of so many places
unfoldable pub judged_list : (rule : ℕ) → Tables → (guest bars prices : ℕ) → Verdict
judged_list rule t guest bars prices = first_fault (listing_faults rule t guest bars prices)

unfoldable pub judged_gains : (rule : ℕ) → Tables → (guest : ℕ) (worths rows : List ℕ) (gains : ℕ) → Verdict
judged_gains rule t guest worths rows gains = first_fault (gaining_faults rule t guest worths rows gains)

-- either rule, the first guest and the last; guest numbers and lengths beyond; and the order of each number and the
-- next: 18 before the market's own, those before 24, 24 before 10
abbrev pub ListingsJudged : Type 0
ListingsJudged =
    (judged_list 1 case_g 1 2 2 ∷ judged_list 2 case_g 2 2 2 ∷ [] ≡ replicate 2 (accepted tt))
    × (judged_list 1 case_g 0 2 2 ∷ judged_list 1 case_g 3 2 2 ∷ [] ≡ replicate 2 (refused 24))
    × (judged_list 1 case_g 1 1 2 ∷ judged_list 1 case_g 1 3 2 ∷ judged_list 1 case_g 1 2 1
    ∷ judged_list 1 case_g 1 2 3 ∷ []
    ≡ replicate 4 (refused 10))
    × (judged_list 3 (single 1 1 0 1) 0 0 0 ∷ judged_list 1 (single 1 1 0 1) 0 0 0 ∷ judged_list 1 case_g 0 0 0 ∷ []
    ≡ refused 18 ∷ refused 8 ∷ refused 24 ∷ [])

-- no row, two rows, the limits; guest numbers, lengths and prices beyond; and the order: 18 before the market's own,
-- those before 24, 24 before 5, 5 before 10, 10 before 9
abbrev pub GainingsJudged : Type 0
GainingsJudged =
    (judged_gains 1 case_g 1 (10 ∷ 0 ∷ []) [] 0
    ∷ judged_gains 2 case_g 2 (1000000 ∷ 1000000 ∷ []) (0 ∷ 0 ∷ 1000000 ∷ 1000000 ∷ []) 2 ∷ []
    ≡ replicate 2 (accepted tt))
    × (judged_gains 1 case_g 0 (10 ∷ 0 ∷ []) [] 0 ∷ judged_gains 1 case_g 3 (10 ∷ 0 ∷ []) [] 0 ∷ []
    ≡ replicate 2 (refused 24))
    × (judged_gains 1 case_g 2 (10 ∷ []) [] 0 ∷ judged_gains 1 case_g 2 (10 ∷ 0 ∷ 0 ∷ []) [] 0
    ∷ judged_gains 1 case_g 2 (10 ∷ 0 ∷ []) (14 ∷ []) 0 ∷ judged_gains 1 case_g 2 (10 ∷ 0 ∷ []) (14 ∷ 0 ∷ 0 ∷ []) 1 ∷ []
    ≡ replicate 4 (refused 5))
    × (judged_gains 1 case_g 2 (10 ∷ 0 ∷ []) (14 ∷ 0 ∷ []) 0 ∷ judged_gains 1 case_g 2 (10 ∷ 0 ∷ []) (14 ∷ 0 ∷ []) 2
    ∷ judged_gains 1 case_g 2 (10 ∷ 0 ∷ []) [] 1 ∷ []
    ≡ replicate 3 (refused 10))
    × (judged_gains 1 case_g 2 (1000001 ∷ 0 ∷ []) [] 0 ∷ judged_gains 1 case_g 2 (10 ∷ 1000001 ∷ []) [] 0
    ∷ judged_gains 1 case_g 2 (10 ∷ 0 ∷ []) (1000001 ∷ 0 ∷ 14 ∷ 0 ∷ []) 2
    ∷ judged_gains 1 case_g 2 (10 ∷ 0 ∷ []) (14 ∷ 0 ∷ 14 ∷ 1000001 ∷ []) 2 ∷ []
    ≡ replicate 4 (refused 9))
    × (judged_gains 3 (single 1 1 0 1) 0 [] [] 1 ∷ judged_gains 1 (single 1 1 0 1) 0 [] [] 1
    ∷ judged_gains 1 case_g 0 [] [] 1 ∷ judged_gains 1 case_g 2 (1000001 ∷ []) [] 1
    ∷ judged_gains 1 case_g 2 (1000001 ∷ 0 ∷ []) [] 1 ∷ []
    ≡ refused 18 ∷ refused 8 ∷ refused 24 ∷ refused 5 ∷ refused 10 ∷ [])
