-- The stations and charges of a truthful round under a rule.
use Prim.Native.Nat.{ℕ, zero, suc, ◌*◌, ◌≤◌, ◌<◌}
use mathlib.Core.List.{List}
use mathlib.Core.Path.{◌≡◌, refl, sym, ap, ap₂, subst, ◌∙◌}
use native.Mathlib.Omega.{arith}
use lib.IntN.{sub_ℕ}
use lib.ListN.{get_or, length}
use Rattle.model.specs.market.Market.{Tables, market_by, market, cut, opens, screen}
use Rattle.model.specs.market.Mechanism.{at, charged, obtained, truthful}
use Rattle.model.specs.market.Outcome.{outcome_by, screened, decision, outcome}
use Rattle.model.specs.market.Gains.{guest_gain}
use Rattle.model.specs.market.Changes.{gain}
use Rattle.model.specs.Counting.{list}
use Rattle.model.specs.declared.rule.Rule.{Rule}
use Rattle.model.proofs.Loops.{element, long}
use Rattle.model.proofs.market.Truthful.{assigned_at_best_place}
use Rattle.pricing.specs.Charges.{least_at}
use Rattle.pricing.specs.CutAsk.{cut_ask}
use Rattle.pricing.proofs.cut.CutAsk.{cut_is}
use Rattle.allocation.specs.Assignment.{Assigned}
use Rattle.allocation.specs.Screens.{screened_at}
use Rattle.allocation.specs.Stages.{AtCut}
use Rattle.whatif.specs.Gains.{gain_from}

under_rule :
    (rule : Rule) (t : Tables) → let S = screened_at t (cut (market rule t)) in
    outcome_by S (truthful S) ≡ outcome rule t
unfolding outcome decision screened screen opens screened_at market market_by
under_rule rule t = refl

-- at the rule's cut the rule's outcome
pub assigned_under :
    (rule : Rule) (t : Tables) {c : ℕ} {stations charges : List ℕ} → c ≡ cut_ask rule t.asks
    → Assigned (outcome_by (screened_at t c) (truthful (screened_at t c))) stations charges
    → Assigned (outcome rule t) stations charges
assigned_under rule t {c} {stations} {charges} e =
    subst (λ o. Assigned o stations charges)
    (ap (λ c. outcome_by (screened_at t c) (truthful (screened_at t c))) (e ∙ cut_is rule t) ∙ under_rule rule t)

module _ (rule : Rule) (t : Tables) {stations charges : List ℕ} (a : Assigned (outcome rule t) stations charges) where
  pub stations_long : length stations ≡ length t.amounts
  unfolding outcome outcome_by screened screen market market_by
  stations_long = long _ _ a.stations_are

  pub charges_long : length charges ≡ length t.amounts
  unfolding outcome outcome_by screened screen market market_by
  charges_long = long _ _ a.charges_are

  pub station_is : (i : ℕ) → i < length t.amounts → get_or stations i 0 ≡ (decision rule t).assigned i
  unfolding outcome outcome_by screened screen market market_by
  station_is i li = element _ _ a.stations_are i li

  charge_is : (i : ℕ) → i < length t.amounts → get_or charges i 0 ≡ charged (screened rule t) (decision rule t) i
  unfolding outcome outcome_by screened screen market market_by
  charge_is i li = element _ _ a.charges_are i li

  -- a number of a station, or 0
  pub station_low : (i : ℕ) → i < length t.amounts → get_or stations i 0 ≤ length t.asks
  unfolding screened screen market market_by
  station_low i li = rw (station_is i li) (go ((decision rule t).assigned i) refl)
    where
      go : (s : ℕ) → (decision rule t).assigned i ≡ s → s ≤ length t.asks
      go zero e = omega arith
      go (suc j) e = ((assigned_at_best_place rule t i).somewhere j e).0

  pub gain_is :
      (worths : List ℕ) (i : ℕ) → i < length t.amounts
      → gain_from worths (get_or stations i 0) (get_or t.amounts i 0) (get_or charges i 0) ≡ gain rule t i worths
  unfolding gain gain_from guest_gain obtained screened screen market market_by
  gain_is worths i li =
      ap₂ (λ s c. sub_ℕ (at (λ j. get_or worths j 0 * get_or t.amounts i 0) s) c) (station_is i li) (charge_is i li)

-- a market with the same stations and guests has the same cut and least charges
pub at_cut_too : {t u : Tables} {c : ℕ} {least : List ℕ} → u.amounts ≡ t.amounts → AtCut t c least → AtCut u c least
at_cut_too {c = c} e h =
    record { cut_low = h.cut_low; least_are = h.least_are ∙ ap (λ a. list (length a) (least_at a c)) (sym e) }
