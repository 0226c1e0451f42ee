-- Before the first station, and after the last.
use Prim.Native.Nat.{ℕ, zero, suc, ◌+◌, ◌*◌, ◌≤◌, ◌<◌, max}
use mathlib.Core.List.{List}
use mathlib.Core.Path.{◌≡◌, refl, sym, ap, ap₂, subst, ◌∙◌}
use native.Mathlib.Nat.{le_refl, le_antisymm}
use native.Mathlib.Numerals.{add-one}
use native.Mathlib.Omega.{arith}
use lib.ListN.{get_or, length, take, replicate}
use Rattle.model.specs.Limits.{max_guests, max_stations}
use Rattle.model.specs.Counting.{◌<?◌, only, list}
use Rattle.model.specs.market.Market.{Tables, bid_at, Screened, queue, critical}
use Rattle.model.specs.market.Mechanism.{Decision, at, charge, best, truthful, charged}
use Rattle.model.specs.market.Outcome.{Outcome, outcome_by}
use Rattle.allocation.specs.Screens.{screened_at}
use Rattle.model.specs.claims.Meaning.{WithinLimits}
use Rattle.model.proofs.Tests.{only_yes, only_no, only_le, is_lt, not_lt}
use Rattle.model.proofs.Counting.{greatest_le, list_cong}
use Rattle.model.proofs.Loops.{long, element, relist, zeros_are, zeros_long, in_table}
use Rattle.model.proofs.market.Limits.{product}
use Rattle.model.proofs.market.Outcomes.{ComesOf, numbered}
use Rattle.model.specs.declared.rule.Rule.{Rule}
use Rattle.pricing.specs.Charges.{least_at, Chargeable, charged_at, Charged}
use Rattle.pricing.specs.CutAsk.{cut_ask}
use Rattle.pricing.proofs.cut.CutAsk.{cut_low}
use Rattle.allocation.specs.Stages.{AtCut, station_by, gain_by, critical_by, After, AfterIn, turn_totals, totals_after}
use Rattle.allocation.specs.Stages.{Turned, Bounded, BoundedIn}
use Rattle.allocation.specs.Totals.{max_total}
use Rattle.allocation.specs.Assignment.{Assigned}

-- the turns that a loop has taken: j of them, as far as the stations go
pub record Turning (t : Tables) (c j : ℕ) (totals₀ totals chosen gains criticals : List ℕ) : Type 0 where
  pub within : j ≤ length t.asks
  pub long : length totals ≡ length t.amounts
  pub turned : Turned t c j totals₀ totals chosen gains criticals

pub turning_none :
    {t : Tables} {c : ℕ} {totals chosen gains criticals : List ℕ} → length totals ≡ length t.amounts
    → AfterIn t c 0 chosen gains criticals → Turning t c 0 totals totals chosen gains criticals
unfolding totals_after
turning_none e a = record { within = omega arith; long = e; turned = record { after = a; totals_are = refl } }

pub turning_more :
    {t : Tables} {c j : ℕ} {totals₀ totals chosen gains criticals totals' chosen' gains' criticals' : List ℕ}
    → Turning t c j totals₀ totals chosen gains criticals → j < length t.asks → length totals' ≡ length totals
    → AfterIn t c (j + 1) chosen' gains' criticals' × (totals' ≡ turn_totals t c j totals)
    → Turning t c (j + 1) totals₀ totals' chosen' gains' criticals'
unfolding totals_after
turning_more {t} {c} {j} h l e (a, q) = record {
  within = omega arith;
  long = e ∙ h.long;
  turned = record { after = a; totals_are = rw add-one (q ∙ ap (turn_totals t c j) h.turned.totals_are) };
}

pub turning_end :
    {t : Tables} {c j : ℕ} {totals₀ totals chosen gains criticals : List ℕ}
    → Turning t c j totals₀ totals chosen gains criticals → length t.asks ≤ j
    → Turned t c (length t.asks) totals₀ totals chosen gains criticals
turning_end h b = rw (le_antisymm b h.within) h.turned

pub bounded_end :
    {t : Tables} {c j : ℕ} {totals₀ totals chosen gains criticals bounds : List ℕ}
    → Turning t c j totals₀ totals chosen gains criticals → length t.asks ≤ j → BoundedIn t c j bounds
    → BoundedIn t c (length t.asks) bounds
bounded_end h b x = rw (le_antisymm b h.within) x

pub bounded_none : {S : Screened} {n : ℕ} {bounds : List ℕ} → length bounds ≡ max_stations + 1 → Bounded S n 0 bounds
bounded_none e = record {
  bounds_long = e;
  wins = λ i k li lk. absurd (omega arith);
}

pub after_none :
    {S : Screened} {n : ℕ} {criticals : List ℕ} → n ≤ max_guests → criticals ≡ list (max_stations + 1) (λ _. 0)
    → After S n 0 (take n (replicate {A = ℕ} max_guests 0)) (take n (replicate {A = ℕ} max_guests 0)) criticals
unfolding station_by gain_by critical_by best at
after_none {S} {n} h e = record {
  chosen_are = zeros_are max_guests n h;
  gains_are = zeros_are max_guests n h;
  gains_low = λ k lk. rw (element _ _ (zeros_are max_guests n h) k lk) (omega arith);
  criticals_are = e ∙ list_cong _ _ _ (λ k _. sym (critical_none k));
}
  where
    critical_none : (s : ℕ) → critical_by S 0 s ≡ 0
    critical_none zero = refl
    critical_none (suc k) = only_no _ _ (not_lt _ _ (omega arith))

-- before the first station, with fresh tables. The market is u by its lists and t by its view
abbrev fresh : Tables → List ℕ
fresh u = take (length u.amounts) (replicate {A = ℕ} max_guests 0)

pub starts :
    {t u : Tables} {c : ℕ} {criticals bounds : List ℕ} → u ≡ t → WithinLimits u
    → (criticals ≡ list (max_stations + 1) (λ _. 0)) × (length bounds ≡ max_stations + 1)
    → Turning t c 0 (fresh u) (fresh u) (fresh u) (fresh u) criticals × BoundedIn t c 0 bounds
starts {t} {u} {c} {criticals} {bounds} e w h = subst
    (λ (t : Tables). Turning t c 0 (fresh u) (fresh u) (fresh u) (fresh u) criticals × BoundedIn t c 0 bounds) e (
      turning_none (sym (zeros_long max_guests _ w.shape.guests_most)) (after_none w.shape.guests_most h.0),
      bounded_none h.1,
    )

-- at the cut of a rule
pub at_cut :
    (rule : Rule) (t : Tables) {c : ℕ} {least : List ℕ} → WithinLimits t → c ≡ cut_ask rule t.asks
    → least ≡ list (length t.amounts) (least_at t.amounts c) → AtCut t c least
at_cut rule t w e l = record { cut_low = cut_low rule t _ w e; least_are = l }

-- lists that hold a decision: each guest's number of a station, and the critical total of each
pub record Decided (t : Tables) (D : Decision) (chosen criticals : List ℕ) : Type 0 where
  pub chosen_are : chosen ≡ list (length t.amounts) D.assigned
  pub criticals_long : max_stations < length criticals
  pub criticals_are : (j : ℕ) → j < length t.asks → get_or criticals (suc j) 0 ≡ D.critical j

-- after the last station: each one's critical total, which is within the limits, and the decision
pub critical_at_lem :
    (t : Tables) (c : ℕ) {criticals : List ℕ} → WithinLimits t
    → criticals ≡ list (max_stations + 1) (critical_by (screened_at t c) (length t.asks))
    → (j : ℕ) → j < length t.asks → get_or criticals (suc j) 0 ≡ critical (queue (screened_at t c) j)
unfolding critical_by
critical_at_lem t c w e j l = element _ _ e (suc j) (omega (arith, w.shape.stations_most)) ∙ only_yes _ _ (is_lt _ _ l)

pub critical_low :
    (t : Tables) (c : ℕ) → WithinLimits t → (j : ℕ) → j < length t.asks
    → critical (queue (screened_at t c) j) ≤ max_total
unfolding critical queue screened_at bid_at
critical_low t c w j lj =
    greatest_le (length t.amounts) _ max_total (λ k lk. only_le _ _ _ (λ _.
    product _ _ (w.bid_most _
    (omega (arith, w.shape.bids_length, in_table (length t.amounts) (length t.asks) k j lk lj)))
    (w.amount_most k lk)))

pub truthfully :
    (t : Tables) (c : ℕ) {chosen gains criticals : List ℕ} → WithinLimits t
    → AfterIn t c (length t.asks) chosen gains criticals → Decided t (truthful (screened_at t c)) chosen criticals
unfolding station_by truthful screened_at
truthfully t c w a = record {
  chosen_are = a.chosen_are;
  criticals_long = omega (arith, long _ _ a.criticals_are);
  criticals_are = critical_at_lem t c w a.criticals_are;
}

module _ (t : Tables) {c : ℕ} {least chosen criticals : List ℕ} (A : AtCut t c least) {D : Decision} {o : Outcome}
    (m : ComesOf (screened_at t c) D o) (d : Decided t D chosen criticals) where
  choice : (k : ℕ) → k < length t.amounts → get_or chosen k 0 ≡ D.assigned k
  choice k l = element _ _ d.chosen_are k l

  -- what charging asks of the choices, and what it leaves
  pub chargeable :
      {stations charges : List ℕ} → WithinLimits t → length stations ≡ length t.amounts
      → length charges ≡ length t.amounts → Chargeable chosen least criticals stations charges
  unfolding screened_at
  chargeable w ls lc =
      let n = long _ _ d.chosen_are in
      record {
        least_long = long _ _ A.least_are ∙ sym n;
        stations_long = ls ∙ sym n;
        charges_long = lc ∙ sym n;
        numbers = λ k l. let lk : k < length t.amounts = omega arith in
            rw (choice k lk) (numbered m w.shape.stations_most k lk);
        criticals_long = d.criticals_long;
      }

  least_here : (k : ℕ) → k < length t.amounts → get_or least k 0 ≡ (screened_at t c).cut * (screened_at t c).amount k
  unfolding screened_at
  least_here k l = element _ _ A.least_are k l

  within : (k j : ℕ) → k < length t.amounts → D.assigned k ≡ suc j → j < length t.asks
  unfolding screened_at
  within k j l e = (m.candidates k j l e).0

  charged_by :
      (k s : ℕ) → k < length t.amounts → D.assigned k ≡ s
      → only (0 <? s) (max (get_or least k 0) (get_or criticals s 0)) ≡ at (charge (screened_at t c) D k) s
  unfolding at charge
  charged_by k zero l e = only_no _ _ (not_lt 0 0 (le_refl 0))
  charged_by k (suc j) l e =
      only_yes _ _ (is_lt 0 (suc j) (omega arith)) ∙ ap₂ max (least_here k l) (d.criticals_are j (within k j l e))

  charged_here :
      (k : ℕ) → k < length t.amounts → charged_at chosen least criticals k ≡ charged (screened_at t c) D k
  unfolding charged_at charged
  charged_here k l = rw (choice k l) (charged_by k _ l refl)

  pub assigned :
      {stations charges : List ℕ} → Charged chosen least criticals stations charges → Assigned o stations charges
  unfolding outcome_by screened_at
  assigned h = record {
    stations_are = h.stations_are ∙ d.chosen_are ∙ sym (ap (λ o. o.results.stations) m.outcome_is);
    charges_are = relist _ _ _ _ h.charges_are (long _ _ d.chosen_are) charged_here
        ∙ sym (ap (λ o. o.results.charges) m.outcome_is);
  }
