-- Demand 3, first two sentences, over truthful calls of `clear`, and what of it holds of efficient ones: from the
-- tables, the answer and the result lists at exit alone.
-- Each statement is a type; its proof is a term of proofs/.
use Rattle.std.specs.Prelude.{ℕ, suc, ◌+◌, ◌*◌, ◌≤◌, ◌<◌, ◌≡◌, ℤ, get_or, length, ◌≤ℤ◌, Result}
use Rattle.std.proofs.Math.IntN.{sub_ℕ}
use Rattle.model.specs.Counting.{◌=?◌, only, sum, count}
use Rattle.model.specs.market.Market.{Tables, bid_at}
use Rattle.model.specs.market.Mechanism.{at}
use Rattle.model.specs.market.Outcome.{Results, Outcome, outcome, efficient_outcome}
use Rattle.model.specs.market.Faults.{Accepted}
use Rattle.model.specs.claims.Meaning.{NamesRule}
use Rattle.model.specs.claims.Truth.{AlikeButForGuest, AlikeButForStation}
use Rattle.model.specs.clauses.EntryPoints.{Clears}
use Rattle.model.specs.Numbers.{answer_of_clearing}
use Rattle.model.specs.Verdicts.{accepted}
use Rattle.model.specs.declared.rule.Rule.{Rule}
use Rattle.model.specs.declared.answers.Figures.{Figures}
use Rattle.model.specs.declared.refusal.Refusal.{Refusal}

-- a call under the rule of this number that was answered as cleared, whatever its result lists held before
pub record ClearedCallBy (made : Rule → Tables → Outcome) (rule : ℕ) (t : Tables) : Type 0 where
  pub entry : Results
  pub answer : Result Figures Refusal
  pub cut : ℕ
  pub margin : ℕ
  pub exit : Results
  pub call : Clears made rule t entry answer exit
  pub cleared : answer_of_clearing answer ≡ accepted (cut, margin)

-- a truthful one, and an efficient one
abbrev pub ClearedCall : (rule : ℕ) → Tables → Type 0
ClearedCall = ClearedCallBy outcome

abbrev pub EfficientCall : (rule : ℕ) → Tables → Type 0
EfficientCall = ClearedCallBy efficient_outcome

-- there is one of either for every accepted market, under either rule
abbrev pub ClearedCallExists : Type 0
ClearedCallExists =
    (made : Rule → Tables → Outcome) (rule : ℕ) (t : Tables) → NamesRule rule → Accepted t → ClearedCallBy made rule t

-- guest i's gain: by its worths w per kWh, worth at the station named times amount, less charge
unfoldable pub guest_gain_in : Tables → Results → (w : ℕ → ℕ) (i : ℕ) → ℤ
guest_gain_in t r w i = sub_ℕ (at (λ j. w j * get_or t.amounts i 0) (get_or r.stations i 0)) (get_or r.charges i 0)

-- station j's gain: payment less cost per kWh times kWh sold
unfoldable pub station_gain_in : Results → (cost j : ℕ) → ℤ
station_gain_in r cost j = sub_ℕ (get_or r.paid j 0) (cost * get_or r.sold j 0)

-- two calls under one rule, alike but for guest i's bids, the first with its worths: it gains no more in the second
abbrev pub GuestTruthfulCalls : Type 0
GuestTruthfulCalls =
    (rule : ℕ) (t t' : Tables) (k : ClearedCall rule t) (k' : ClearedCall rule t') (i : ℕ) → i < length t.amounts
    → AlikeButForGuest t t' i
    → guest_gain_in t' k'.exit (bid_at t i) i ≤ℤ guest_gain_in t k.exit (bid_at t i) i

-- two calls under one rule, alike but for station j's ask, the first with its cost: it gains no more in the second
abbrev pub StationTruthfulCallsBy : (made : Rule → Tables → Outcome) → Type 0
StationTruthfulCallsBy made =
    (rule : ℕ) (t t' : Tables) (k : ClearedCallBy made rule t) (k' : ClearedCallBy made rule t') (j : ℕ)
    → j < length t.asks → AlikeButForStation t t' j
    → station_gain_in k'.exit (get_or t.asks j 0) j ≤ℤ station_gain_in k.exit (get_or t.asks j 0) j

abbrev pub StationTruthfulCalls : Type 0
StationTruthfulCalls = StationTruthfulCallsBy outcome

abbrev pub EfficientStationTruthfulCalls : Type 0
EfficientStationTruthfulCalls = StationTruthfulCallsBy efficient_outcome

-- the limits of one accepted call
pub record CallWithin (t : Tables) (margin : ℕ) (r : Results) : Type 0 where
  pub charge_within_bid :
      (i j : ℕ) → i < length t.amounts → get_or r.stations i 0 ≡ suc j
      → get_or r.charges i 0 ≤ bid_at t i j * get_or t.amounts i 0
  pub unassigned_free : (i : ℕ) → i < length t.amounts → get_or r.stations i 0 ≡ 0 → get_or r.charges i 0 ≡ 0
  pub payment_covers_ask : (j : ℕ) → j < length t.asks → get_or t.asks j 0 * get_or r.sold j 0 ≤ get_or r.paid j 0
  pub sold_as_assigned :
      (j : ℕ) → j < length t.asks
      → get_or r.sold j 0
      ≡ sum (length t.amounts) (λ i. only (get_or r.stations i 0 =? suc j) (get_or t.amounts i 0))
  pub within_bays :
      (j : ℕ) → j < length t.asks
      → count (length t.amounts) (λ i. get_or r.stations i 0 =? suc j) ≤ get_or t.bays j 0
  pub balanced :
      sum (length t.amounts) (λ i. get_or r.charges i 0) ≡ sum (length t.asks) (λ j. get_or r.paid j 0) + margin
  pub covered :
      sum (length t.asks) (λ j. get_or r.paid j 0) ≤ sum (length t.amounts) (λ i. get_or r.charges i 0)

abbrev pub CallLimits : Type 0
CallLimits = (rule : ℕ) (t : Tables) (k : ClearedCall rule t) → CallWithin t k.margin k.exit

abbrev pub EfficientCallLimits : Type 0
EfficientCallLimits = (rule : ℕ) (t : Tables) (k : EfficientCall rule t) → CallWithin t k.margin k.exit
