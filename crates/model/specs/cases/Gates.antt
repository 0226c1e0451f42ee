-- Two gates joined: a worked instance of the statements of claims/Gates.antt, under rule 1, and the order of faults.
use Rattle.std.specs.Prelude.{ℕ, true, false, List, [], ◌∷◌, ◌≡◌, replicate}
use Rattle.model.specs.Verdicts.{Verdict, accepted, refused, first_fault}
use Rattle.model.specs.market.Market.{Tables, regular}
use Rattle.model.specs.market.Faults.{Accepted}
use Rattle.model.specs.market.Gates.{together, Joinable, joining_faults, pair_faults}
use Rattle.model.specs.market.Rules.{median}
use Rattle.model.specs.sheet.Lent.{lent_tables}
use Rattle.model.specs.claims.Truth.{holds_by, charge_at}
use Rattle.model.specs.claims.Gates.{JoiningGives}
use Rattle.model.specs.cases.Cases.{numbered, single, case_e}

-- two gates with a guest each, who has the bay for the cut, 18; together they are case E, where the first keeps it for
-- 24
unfoldable pub gate : (ticket : ℕ) → Tables
gate ticket = regular (2 ∷ 6 ∷ []) (1 ∷ 1 ∷ []) (3 ∷ []) (ticket ∷ []) (8 ∷ 0 ∷ [])

pub record GatesInstance : Type 0 where
  pub joinable : Joinable (gate 1) (gate 2)
  pub together_is : together (gate 1) (gate 2) ≡ case_e
  pub accepts : Accepted (together (gate 1) (gate 2))
  pub gives : JoiningGives median (gate 1) (gate 2) 0
  pub first_held : holds_by median (gate 1) 0 0 ≡ true
  pub second_held : holds_by median (gate 2) 0 0 ≡ true
  pub own_charge_is : charge_at median (gate 1) 0 0 ≡ 18
  pub joined_first_held : holds_by median case_e 0 0 ≡ true
  pub joined_second_lost : holds_by median case_e 1 0 ≡ false
  pub joined_charge_is : charge_at median case_e 0 0 ≡ 24

-- a call with lent tables of so many places
unfoldable pub judged : (t u : Tables) (amounts tickets asks bays bids : ℕ) → Verdict
judged t u amounts tickets asks bays bids =
    first_fault (joining_faults t u
    (lent_tables (replicate amounts 0) (replicate tickets 0) (replicate asks 0) (replicate bays 0) (replicate bids 0)))

-- a guest with ticket 2 at the stations of these asks and bays
unfoldable pub gate_at : (asks bays bids : List ℕ) → Tables
gate_at asks bays bids = regular asks bays (3 ∷ []) (2 ∷ []) bids

-- 200 guests, of whom the ticket of the first is seen, at the stations of these bays
unfoldable pub crowd : (bays : List ℕ) → Tables
crowd bays = regular (2 ∷ 6 ∷ []) bays (replicate 200 3) (1 ∷ []) []

-- each lent table too short and too long; the count of stations, the asks and the bays; and the order of each number
-- and the next: the first market's own before the second's, those before 20, 20 before 2, 2 before 21, 21 before 10
abbrev pub JoiningsJudged : Type 0
JoiningsJudged =
    (judged (gate 1) (gate 2) 2 2 2 2 4 ≡ accepted tt)
    × (judged (gate 1) (gate 2) 1 2 2 2 4 ∷ judged (gate 1) (gate 2) 3 2 2 2 4 ∷ judged (gate 1) (gate 2) 2 1 2 2 4
    ∷ judged (gate 1) (gate 2) 2 3 2 2 4 ∷ judged (gate 1) (gate 2) 2 2 1 2 4 ∷ judged (gate 1) (gate 2) 2 2 3 2 4
    ∷ judged (gate 1) (gate 2) 2 2 2 1 4 ∷ judged (gate 1) (gate 2) 2 2 2 3 4 ∷ judged (gate 1) (gate 2) 2 2 2 2 3
    ∷ judged (gate 1) (gate 2) 2 2 2 2 5 ∷ []
    ≡ replicate 10 (refused 10))
    × (judged (gate 1) (gate_at (2 ∷ []) (1 ∷ []) (8 ∷ [])) 2 2 2 2 4
    ∷ judged (gate 1) (gate_at (2 ∷ 5 ∷ []) (1 ∷ 1 ∷ []) (8 ∷ 0 ∷ [])) 2 2 2 2 4
    ∷ judged (gate 1) (gate_at (2 ∷ 6 ∷ []) (1 ∷ 2 ∷ []) (8 ∷ 0 ∷ [])) 2 2 2 2 4 ∷ []
    ≡ replicate 3 (refused 20))
    × (judged (single 1 1 0 1) (numbered [] [] [] []) 0 0 0 0 0 ∷ judged (gate 1) (single 1 1 0 1) 0 0 0 0 0
    ∷ first_fault (pair_faults (crowd (1 ∷ 2 ∷ [])) (gate 1) 0 0 0 0 0)
    ∷ first_fault (pair_faults (crowd (1 ∷ 1 ∷ [])) (gate 1) 0 0 0 0 0) ∷ judged (gate 1) (gate 1) 0 0 0 0 0 ∷ []
    ≡ refused 8 ∷ refused 8 ∷ refused 20 ∷ refused 2 ∷ refused 21 ∷ [])
