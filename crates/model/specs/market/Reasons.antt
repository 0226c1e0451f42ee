-- What decided, for each guest and station of a truthful round, and each guest's outcome. Document 02, request 7.
-- Guests and stations count from 0 here.
use Rattle.std.specs.Prelude.{ℕ, not, List, [], ◌∷◌, length}
use Rattle.model.specs.Counting.{◌<?◌, ◌=?◌, ◌and◌, only, greatest, list, joined}
use Rattle.model.specs.Verdicts.{Row, ◌gives◌, first_fault, number_of}
use Rattle.model.specs.market.Market.{Tables, Market, market, cut, opens, screen, queue, provisional}
use Rattle.model.specs.market.Outcome.{decision, outcome}
use Rattle.model.specs.declared.rule.Rule.{Rule}

-- for guest i and station j: no bid, station not open, bid below the cut, outbid (a candidate without a place)
unfoldable pub conditions : Market → (i j : ℕ) → List Row
conditions M i j =
    (M.bid i j =? 0 gives 1)
    ∷ (not (opens M j) gives 2)
    ∷ (M.bid i j <? cut M gives 3)
    ∷ ((screen M).candidate i j and not (provisional (queue (screen M) j) i) gives 4)
    ∷ []

-- the code: the first of 1 to 4 that applies, or 0: place held
unfoldable pub code : Market → (i j : ℕ) → ℕ
code M i j = number_of (first_fault (conditions M i j))

-- the code table, row after row as the bids
unfoldable pub codes : Rule → Tables → List ℕ
codes rule t = joined (length t.amounts) (λ i. list (length t.asks) (code (market rule t) i))

-- the highest code of guest i
unfoldable pub highest_code : Rule → Tables → (i : ℕ) → ℕ
highest_code rule t i = greatest (length t.asks) (code (market rule t) i)

-- an outcome table, as three lists: the station and charge of each win, the code of each loss; 0 where there is none
pub record OutcomeTable : Type 0 where
  pub stations : List ℕ
  pub charges : List ℕ
  pub reasons : List ℕ

abbrev pub outcome_table : (stations charges reasons : List ℕ) → OutcomeTable
outcome_table stations charges reasons = record { stations = stations; charges = charges; reasons = reasons }

-- how long they are
abbrev pub outcome_lengths : OutcomeTable → List ℕ
outcome_lengths o = length o.stations ∷ length o.charges ∷ length o.reasons ∷ []

-- the code table and the outcome table that a call is lent
pub record Explanation : Type 0 where
  pub codes : List ℕ
  pub outcomes : OutcomeTable

abbrev pub explanation : (codes : List ℕ) (outcomes : OutcomeTable) → Explanation
explanation codes outcomes = record { codes = codes; outcomes = outcomes }

-- guest i's loss: its highest code, 0 where it is assigned
unfoldable pub loss : Rule → Tables → (i : ℕ) → ℕ
loss rule t i = only ((decision rule t).assigned i =? 0) (highest_code rule t i)

-- each guest's outcome: a win with the clearing's station and charge, or a loss that carries its highest code
unfoldable pub guest_outcomes : Rule → Tables → OutcomeTable
guest_outcomes rule t =
    outcome_table (outcome rule t).results.stations (outcome rule t).results.charges
    (list (length t.amounts) (loss rule t))
