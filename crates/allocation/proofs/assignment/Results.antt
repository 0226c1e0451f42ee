-- What an assignment comes to: the lists, the sums and the margin of its outcome.
use Prim.Native.Nat.{ℕ, zero, suc, ◌+◌, ◌*◌, ◌-◌, ◌≤◌, ◌<◌}
use mathlib.Core.List.{List}
use mathlib.Core.Path.{◌≡◌, refl, sym, ap, ap₂, ◌∙◌}
use native.Mathlib.Numerals.{add-one}
use native.Mathlib.Omega.{arith}
use lib.ListN.{get_or, length}
use Rattle.model.specs.Limits.{max_stations}
use Rattle.model.specs.Counting.{◌=?◌, only, sum, list}
use Rattle.model.specs.market.Market.{Tables}
use Rattle.model.specs.market.Mechanism.{Decision, at, charge, charged, sold, paid, margin}
use Rattle.model.specs.market.Outcome.{Outcome, outcome_by, results}
use Rattle.model.specs.claims.Meaning.{WithinLimits}
use Rattle.model.proofs.Counting.{sum_cong}
use Rattle.model.proofs.Loops.{long, element, relist}
use Rattle.model.proofs.market.Outcomes.{ComesOf, numbered}
use Rattle.pricing.specs.Sales.{kwh_at, PaidOut}
use Rattle.allocation.specs.Stages.{AtCut}
use Rattle.allocation.specs.Assignment.{Assigned}
use Rattle.allocation.specs.Screens.{screened_at}

module _ (t : Tables) (c : ℕ) {D : Decision} {o : Outcome} (m : ComesOf (screened_at t c) D o)
    {stations charges : List ℕ} (a : Assigned o stations charges) where
  stations_are : stations ≡ list (length t.amounts) D.assigned
  unfolding outcome_by screened_at
  stations_are = a.stations_are ∙ ap (λ o. o.results.stations) m.outcome_is

  charges_are : charges ≡ list (length t.amounts) (charged (screened_at t c) D)
  unfolding outcome_by screened_at
  charges_are = a.charges_are ∙ ap (λ o. o.results.charges) m.outcome_is

  pub stations_count : length stations ≡ length t.amounts
  stations_count = long _ _ stations_are

  pub charges_count : length charges ≡ length t.amounts
  charges_count = long _ _ charges_are

  pub stations_low : WithinLimits t → (k : ℕ) → k < length t.amounts → get_or stations k 0 ≤ max_stations
  unfolding screened_at
  stations_low w k l = rw (element _ _ stations_are k l) (numbered m w.shape.stations_most k l)

  kwh_is : (j : ℕ) → kwh_at stations t.amounts (j + 1) ≡ sold (screened_at t c) D j
  unfolding kwh_at sold screened_at
  kwh_is j =
      sum_cong (length t.amounts) _ _
      (λ k l. ap₂ (λ x y. only (x =? y) (get_or t.amounts k 0)) (element _ _ stations_are k l) (add-one j))

  pub cut_is : c ≡ o.cut
  unfolding outcome_by screened_at
  cut_is = sym (ap (λ o. o.cut) m.outcome_is)

  -- whoever is not assigned is charged nothing, and adds nothing
  pub margin_is :
      {least : List ℕ} → AtCut t c least → sum (length charges) (λ i. get_or charges i 0 - get_or least i 0) ≡ o.margin
  unfolding outcome_by margin charged at screened_at
  margin_is {least} A =
      ap (λ n. sum n (λ i. get_or charges i 0 - get_or least i 0)) charges_count
      ∙ sum_cong (length t.amounts) _ _ (λ k l. ap₂ ◌-◌ (element _ _ charges_are k l)
      (element _ _ A.least_are k l) ∙ go k (D.assigned k))
      ∙ sym (ap (λ o. o.margin) m.outcome_is)
    where
      go :
          (k r : ℕ)
          → at (charge (screened_at t c) D k) r - c * get_or t.amounts k 0
          ≡ at (λ j. charge (screened_at t c) D k j - c * get_or t.amounts k 0) r
      go k zero = omega arith
      go k (suc j) = refl

  pub results_are :
      {n : ℕ} {sales payments : List ℕ} → n ≡ length t.asks
      → PaidOut (kwh_at stations t.amounts) c n sales payments
      → results stations charges sales payments ≡ o.results
  unfolding outcome_by paid screened_at
  results_are {sales = sales} {payments} e p =
      (λ x. record {
        stations = stations_are x;
        charges = charges_are x;
        sold = relist _ _ _ _ p.sold_are e (λ j _. kwh_is j) x;
        paid = relist _ _ _ _ p.paid_are e (λ j _. ap (λ y. c * y) (kwh_is j)) x;
      })
      ∙ sym (ap (λ o. o.results) m.outcome_is)
