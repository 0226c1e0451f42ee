-- Demand 3, first two sentences. Each statement is a type; its proof is a term of proofs/.
use Rattle.std.specs.Prelude.{ℕ, suc, ◌+◌, ◌*◌, ◌≤◌, ◌<◌, Bool, true, ◌↔◌, ◌≡◌, get_or, length, ◌≤ℤ◌}
use Rattle.std.proofs.Math.IntN.{sub_ℕ}
use Rattle.model.specs.Counting.{◌=?◌, only, sum}
use Rattle.model.specs.market.Market.{Tables, bid_at, market_by, market, opens, Screened, screen, queue}
use Rattle.model.specs.market.Market.{provisional}
use Rattle.model.specs.market.Mechanism.{Decision, at, charge, charged, served, sold, paid, margin, truthful}
use Rattle.model.specs.market.Menus.{Menu, choice}
use Rattle.model.specs.market.Outcome.{screened, decision}
use Rattle.model.specs.market.Rules.{position}
use Rattle.model.specs.declared.rule.Rule.{Rule}
use Rattle.model.specs.market.Faults.{Accepted}
use Rattle.model.specs.market.Gains.{guest_gain, station_gain}

-- t and t' are alike but for guest i's bids
pub record AlikeButForGuest (t t' : Tables) (i : ℕ) : Type 0 where
  pub same_asks : t'.asks ≡ t.asks
  pub same_bays : t'.bays ≡ t.bays
  pub same_amounts : t'.amounts ≡ t.amounts
  pub same_tickets : t'.tickets ≡ t.tickets
  pub same_bids : (k j : ℕ) → k < length t.amounts → j < length t.asks → (k ≡ i → ⊥) → bid_at t' k j ≡ bid_at t k j

-- t and t' are alike but for station j's ask
pub record AlikeButForStation (t t' : Tables) (j : ℕ) : Type 0 where
  pub same_count : length t'.asks ≡ length t.asks
  pub same_asks : (k : ℕ) → k < length t.asks → (k ≡ j → ⊥) → get_or t'.asks k 0 ≡ get_or t.asks k 0
  pub same_bays : t'.bays ≡ t.bays
  pub same_amounts : t'.amounts ≡ t.amounts
  pub same_tickets : t'.tickets ≡ t.tickets
  pub same_bids : t'.bids ≡ t.bids

-- what a mechanism sees under any rule for the position of the cut
abbrev pub screened_by : (rule : ℕ → ℕ) → Tables → Screened
screened_by rule t = screen (market_by rule t)

-- by document 01's mechanism under any such rule: whether guest i holds a place at station j, and its charge there,
-- assigned there or not
abbrev pub holds_by : (rule : ℕ → ℕ) → Tables → (i j : ℕ) → Bool
holds_by rule t i j = provisional (queue (screened_by rule t) j) i

abbrev pub HoldsPlace : (rule : ℕ → ℕ) → Tables → (i j : ℕ) → Type 0
HoldsPlace rule t i j = holds_by rule t i j ≡ true

abbrev pub charge_at : (rule : ℕ → ℕ) → Tables → (i j : ℕ) → ℕ
charge_at rule t i j = charge (screened_by rule t) (truthful (screened_by rule t)) i j

-- where t carries guest i's worths, i gains no more in t'
abbrev pub GuestTruthfulBy : (mechanism : Screened → Decision) (rule : ℕ → ℕ) → Type 0
GuestTruthfulBy mechanism rule =
    (t t' : Tables) (i : ℕ) → Accepted t → Accepted t' → i < length t.amounts → AlikeButForGuest t t' i
    → guest_gain (screened_by rule t') (mechanism (screened_by rule t')) (bid_at t i) i
    ≤ℤ guest_gain (screened_by rule t) (mechanism (screened_by rule t)) (bid_at t i) i

-- where t carries station j's cost, j gains no more in t'
abbrev pub StationTruthfulBy : (mechanism : Screened → Decision) (rule : ℕ → ℕ) → Type 0
StationTruthfulBy mechanism rule =
    (t t' : Tables) (j : ℕ) → Accepted t → Accepted t' → j < length t.asks → AlikeButForStation t t' j
    → station_gain (screened_by rule t') (mechanism (screened_by rule t')) (get_or t.asks j 0) j ≤ℤ
    station_gain (screened_by rule t)
    (mechanism (screened_by rule t)) (get_or t.asks j 0) j

-- at any position of the cut that depends on the number of stations alone, from 1 to m or not
abbrev pub GuestTruthful : Type 0
GuestTruthful = (rule : ℕ → ℕ) → GuestTruthfulBy truthful rule

abbrev pub StationTruthful : Type 0
StationTruthful = (rule : ℕ → ℕ) → StationTruthfulBy truthful rule

-- so under each rule, both markets under the same (document 02, request 6)
abbrev pub GuestTruthfulUnder : Type 0
GuestTruthfulUnder = (rule : Rule) → GuestTruthfulBy truthful (position rule)

abbrev pub StationTruthfulUnder : Type 0
StationTruthfulUnder = (rule : Rule) → StationTruthfulBy truthful (position rule)

-- signed gains and sums without subtraction say the same
abbrev pub SignedIffUnsigned : Type 0
SignedIffUnsigned = (a b c d : ℕ) → (sub_ℕ a b ≤ℤ sub_ℕ c d) ↔ (a + d ≤ c + b)

-- U is guest i's menu in t under a rule: the open stations, each price at the bar or one below; whatever row i states,
-- it is assigned its choice and charged the price
pub record MenuOf (rule : Rule) (t : Tables) (i : ℕ) (U : Menu) : Type 0 where
  pub opens_offer : (j : ℕ) → j < length t.asks → U.offered j ≡ opens (market rule t) j
  pub priced_below : (j : ℕ) → U.price j ≤ U.bar j
  pub priced_near : (j : ℕ) → U.bar j ≤ U.price j + 1
  pub assigns : (t' : Tables) → Accepted t' → AlikeButForGuest t t' i
      → (decision rule t').assigned i ≡ choice (length t.asks) U ((screened rule t').total i)
  pub charges : (t' : Tables) → Accepted t' → AlikeButForGuest t t' i
      → charged (screened rule t') (decision rule t') i
      ≡ at U.price (choice (length t.asks) U ((screened rule t').total i))

abbrev pub GuestMenu : Type 0
GuestMenu =
    (rule : Rule) (t : Tables) (i : ℕ) → Accepted t → i < length t.amounts → (U : Menu) × MenuOf rule t i U

-- the limits of every clearing, whichever mechanism decided it, under either rule
pub record ClearsWithin (rule : Rule) (t : Tables) (D : Decision) : Type 0 where
  pub charge_within_bid : (i j : ℕ) → i < length t.amounts → D.assigned i ≡ suc j
      → charged (screened rule t) D i ≤ bid_at t i j * get_or t.amounts i 0
  pub unassigned_free : (i : ℕ) → D.assigned i ≡ 0 → charged (screened rule t) D i ≡ 0
  pub payment_covers_ask : (j : ℕ) → get_or t.asks j 0 * sold (screened rule t) D j ≤ paid (screened rule t) D j
  pub sold_as_assigned :
      (j : ℕ)
      → sold (screened rule t) D j
      ≡ sum (length t.amounts) (λ i. only (D.assigned i =? suc j) (get_or t.amounts i 0))
  pub within_bays : (j : ℕ) → served (screened rule t) D j ≤ get_or t.bays j 0
  pub balanced :
      sum (length t.amounts) (charged (screened rule t) D)
      ≡ sum (length t.asks) (paid (screened rule t) D) + margin (screened rule t) D
  pub covered :
      sum (length t.asks) (paid (screened rule t) D) ≤ sum (length t.amounts) (charged (screened rule t) D)

abbrev pub ClearingLimits : Type 0
ClearingLimits = (rule : Rule) (t : Tables) → Accepted t → ClearsWithin rule t (decision rule t)
