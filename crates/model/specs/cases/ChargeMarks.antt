-- The charge marks where a place is lost: worked places, each an instance of the theorem of claims/ChargeMarks.antt.
use Rattle.std.specs.Prelude.{ℕ, ◌≤◌, Bool, true, false, List, [], ◌∷◌, map, ◌≡◌}
use Rattle.model.specs.Limits.{max_price}
use Rattle.model.specs.market.Market.{Tables, regular}
use Rattle.model.specs.market.Outcome.{decision}
use Rattle.model.specs.market.Rules.{position}
use Rattle.model.specs.market.Changes.{with_bid}
use Rattle.model.specs.claims.Truth.{holds_by, HoldsPlace, charge_at}
use Rattle.model.specs.claims.ChargeMarks.{critical_at, BeforeFirstOut, MarksPlace}
use Rattle.model.specs.declared.rule.Rule.{Rule}
use Rattle.model.specs.declared.rule.Rule.TheVariants.{Median, TwoThirds}
use Rattle.model.specs.cases.Cases.{table_i}

-- guest i's place at station j of t, both from 0: the charge and the critical total there, and for each of these bids
-- whether it keeps the place
pub record ChargeInstance (rule : Rule) (t : Tables) (i j charge critical : ℕ) (bids : List ℕ) (kept : List Bool) :
    Type 0 where
  pub held : HoldsPlace (position rule) t i j
  pub charge_is : charge_at (position rule) t i j ≡ charge
  pub critical_is : critical_at (position rule) t j ≡ critical
  pub kept_are : map (λ bid. holds_by (position rule) (with_bid t i j bid) i j) bids ≡ kept
  pub marks : (bid : ℕ) → bid ≤ max_price → MarksPlace (position rule) t i j bid

-- asks 2 and 6, so that the cut is 6 and station 1 alone is open; one bay each
unfoldable pub contest : (amounts tickets bids : List ℕ) → Tables
contest amounts tickets bids = regular (2 ∷ 6 ∷ []) (1 ∷ 1 ∷ []) amounts tickets bids

-- 27 against 24, so that guest 1's charge and the critical total are 24; its ticket is the lower
unfoldable pub earlier : Tables
earlier = contest (3 ∷ 3 ∷ []) (4 ∷ 9 ∷ []) (9 ∷ 0 ∷ 8 ∷ 0 ∷ [])

-- the same, and its ticket is the higher
unfoldable pub later : Tables
later = contest (3 ∷ 3 ∷ []) (9 ∷ 4 ∷ []) (9 ∷ 0 ∷ 8 ∷ 0 ∷ [])

-- 27 against 14, so that guest 1's charge is the cut times its amount, 18, above the critical total; its ticket is the
-- higher
unfoldable pub uneven : Tables
uneven = contest (3 ∷ 2 ∷ []) (9 ∷ 4 ∷ []) (9 ∷ 0 ∷ 7 ∷ 0 ∷ [])

pub record ChargeInstances : Type 0 where
  pub replaced_is : with_bid earlier 0 0 8 ≡ contest (3 ∷ 3 ∷ []) (4 ∷ 9 ∷ []) (8 ∷ 0 ∷ 8 ∷ 0 ∷ [])
  -- 21 is below the charge, 24 the charge itself, 27 above it: at the charge the lower ticket keeps the bay
  pub lower_ticket : ChargeInstance Median earlier 0 0 24 24 (7 ∷ 8 ∷ 9 ∷ []) (false ∷ true ∷ true ∷ [])
  pub is_lower : BeforeFirstOut (position Median) earlier 0 0
  -- and the higher ticket loses it
  pub higher_ticket : ChargeInstance Median later 0 0 24 24 (7 ∷ 8 ∷ 9 ∷ []) (false ∷ false ∷ true ∷ [])
  pub is_higher : BeforeFirstOut (position Median) later 0 0 → ⊥
  -- 15, 18, 21: at the charge it is kept all the same, since the critical total is lower. 15 is above that, and loses
  pub lower_critical : ChargeInstance Median uneven 0 0 18 14 (5 ∷ 6 ∷ 7 ∷ []) (false ∷ true ∷ true ∷ [])
  pub is_higher_too : BeforeFirstOut (position Median) uneven 0 0 → ⊥
  -- Table I: guest 3 is assigned to station 2, and holds a place at station 4 too; under rule 2 that costs the cut, 4,
  -- times its amount, 6, and nobody stands behind it
  pub assigned_to_2 : (decision Median table_i).assigned 2 ≡ 2
  pub not_assigned : ChargeInstance Median table_i 2 3 18 12 (2 ∷ 3 ∷ 4 ∷ []) (false ∷ true ∷ true ∷ [])
  pub under_rule_2 : ChargeInstance TwoThirds table_i 2 3 24 0 (3 ∷ 4 ∷ 5 ∷ []) (false ∷ true ∷ true ∷ [])
