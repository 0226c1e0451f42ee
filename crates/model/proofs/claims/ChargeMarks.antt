-- Request 14, proved: the market with one other bid is the market with other bids of that guest, where the others' bids
-- at that station stay.
use Prim.Native.Nat.{ℕ, ◌*◌, ◌≤◌, ◌<◌}
use mathlib.Core.Bool.{true}
use mathlib.Core.Logic.{inl, inr, ⊎_elim, ◌↔◌}
use mathlib.Core.Path.{◌≡◌, sym, ap, ◌∙◌}
use native.Mathlib.Omega.{arith}
use lib.ListN.{get_or, length}
use Rattle.model.specs.Limits.{max_price}
use Rattle.model.specs.market.Market.{Tables, bid_at, market_by, market, opens, screen, Queue, queue, provisional}
use Rattle.model.specs.market.Market.{first_out, critical}
use Rattle.model.specs.market.Faults.{Accepted}
use Rattle.model.specs.market.Outcome.{outcome_by, screened, outcome}
use Rattle.model.specs.market.Marking.{Submission, full_results_of, round_of}
use Rattle.model.specs.market.Rules.{position, rule_of}
use Rattle.model.specs.market.Changes.{with_bid}
use Rattle.model.specs.claims.Truth.{charge_at}
use Rattle.model.specs.claims.Marking.{place_in}
use Rattle.model.specs.claims.ChargeMarks.{critical_at, ChargeMarksPlace, ChargeMarksPlaceUnder, OutAtFloor}
use Rattle.model.specs.claims.ChargeMarks.{FirstOutIn, FirstOutShown, ChargeMarksPlaceCalls}
use Rattle.model.specs.declared.rule.Rule.{Rule}
use Rattle.model.proofs.Tests.{both, lt_yes, is_lt, is_le, lt_or_le}
use Rattle.model.proofs.market.Acceptance.{accepted_iff_within_limits}
use Rattle.model.proofs.market.Changes.{bid_at_most, with_bid_accepted, with_bid_replaces_bid}
use Rattle.model.proofs.market.Truthful.{tickets_single}
use Rattle.model.proofs.market.Decisions.{candidate_open, candidate_bid}
use Rattle.model.proofs.market.FirstOut.{OutAtCritical, first_out_there, first_out_lowest, lowest_first_out}
use Rattle.model.proofs.market.Marks.{marks}
use Rattle.model.proofs.claims.Marking.{places_read, floors_read, given_is, cleared_within, fully_cleared_shows}

module _ (t : Tables) (i j bid : ℕ) (li : i < length t.amounts) (lj : j < length t.asks) where
  total_is : bid_at (with_bid t i j bid) i j * get_or t.amounts i 0 ≡ bid * get_or t.amounts i 0
  total_is = ap (λ x. x * get_or t.amounts i 0) (with_bid_replaces_bid t i j bid li lj).replaced

  others_same : (k : ℕ) → k < length t.amounts → (k ≡ i → ⊥) → bid_at (with_bid t i j bid) k j ≡ bid_at t k j
  others_same k lk n = (with_bid_replaces_bid t i j bid li lj).same_elsewhere k j lk lj (λ (e, _). n e)

pub charge_marks_place : ChargeMarksPlace
unfolding market_by
charge_marks_place rule t i j bid a li lj h most =
    let w = (accepted_iff_within_limits t).0 a in
    let m = marks (market_by rule t) (tickets_single t a) i li (w.amount_least i li) (bid_at (with_bid t i j bid)) j
    (w.bays_least j lj) (others_same t i j bid li lj) h in
    let total = total_is t i j bid li lj in
    record {
      still_accepted = with_bid_accepted t i j bid a li most;
      above_keeps = λ l. m.above (omega arith);
      below_loses = λ l. m.below (omega arith);
      equal_decides = λ e. (
        λ k. ⊎_elim (λ q. inl q)
            (λ (q : charge_at rule t i j ≤ critical_at rule t j).
            let (f, lf, o, s) = m.kept_sooner (total ∙ e) q k in inr (f, lf, o, omega arith))
            (lt_or_le (critical_at rule t j) (charge_at rule t i j)),
        λ c. ⊎_elim (λ q. m.over_critical (total ∙ e) q)
            (λ (f, lf, o, s). m.sooner_kept (total ∙ e) (f, lf, o, omega arith))
            c,
      );
    }

pub charge_marks_place_under : ChargeMarksPlaceUnder
charge_marks_place_under rule = charge_marks_place (position rule)

-- ---- over calls

-- what the truthful round shows at station j
module _ (rule : Rule) (t : Tables) (j : ℕ) (lj : j < length t.asks) where
  abbrev Q : Queue
  Q = queue (screened rule t) j

  abbrev round : Submission
  round = round_of rule t

  no_place_shown :
      (k : ℕ) → k < length t.amounts → (place_in t round.lists k j ≡ 0) ↔ (provisional Q k ≡ true → ⊥)
  unfolding place_in round_of full_results_of
  no_place_shown k lk =
      let r = places_read rule t k j lk lj in (
        λ e h. omega (arith, r.held.1 h),
        λ n. ⊎_elim
            (λ (l : place_in t round.lists k j < 1). omega arith)
            (λ (l : 1 ≤ place_in t round.lists k j). absurd (n (r.held.0 (omega (arith, r.most)))))
            (lt_or_le (place_in t round.lists k j) 1),
      )

  floor_shown : get_or round.lists.floors j 0 ≡ critical Q
  unfolding round_of full_results_of
  floor_shown = (floors_read rule t j lj).is_critical

  out_shown : (k : ℕ) → k < length t.amounts → OutAtFloor t round k j ↔ OutAtCritical Q k
  unfolding round_of outcome outcome_by screened screen market market_by queue opens
  out_shown k lk = (
    λ o. (
      both (is_lt _ _ o.open_ask) (is_le _ _ o.bid_reaches),
      (no_place_shown k lk).0 o.no_place,
      o.at_floor ∙ floor_shown,
    ),
    λ (c, n, e). record {
      open_ask = lt_yes _ _ (candidate_open (market rule t) k j c);
      bid_reaches = candidate_bid (market rule t) k j c;
      no_place = (no_place_shown k lk).1 n;
      at_floor = e ∙ sym floor_shown;
    },
  )

  first_shown : Accepted t → (k : ℕ) → k < length t.amounts → FirstOutIn t round k j ↔ (first_out Q k ≡ true)
  unfolding screened screen market market_by queue
  first_shown a k lk =
      let D = tickets_single t a in (
        λ f. lowest_first_out Q D k lk ((out_shown k lk).0 f.out) (λ l ll o. f.lowest l ll ((out_shown l ll).1 o)),
        λ o. record {
          out = (out_shown k lk).1 (first_out_there Q D k lk o);
          lowest = λ l ll x. first_out_lowest Q D k l lk ll o ((out_shown l ll).0 x);
        },
      )

pub first_out_shown : FirstOutShown
unfolding screened market
first_out_shown rule t c k j lk lj =
    rw (given_is rule t c) (first_shown (rule_of rule) t j lj (cleared_within rule t c).market_accepted k lk)

pub charge_marks_place_calls : ChargeMarksPlaceCalls
unfolding screened market
charge_marks_place_calls rule t i j bid c c' li lj held =
    let t' = with_bid t i j bid in
    let before = fully_cleared_shows rule t c i j li lj in
    let after = fully_cleared_shows rule t' c' i j li lj in
    let most : bid ≤ max_price = omega (
      arith,
      bid_at_most t' (cleared_within rule t' c').market_accepted i j li lj,
      (with_bid_replaces_bid t i j bid li lj).replaced,
    ) in
    let m = charge_marks_place (position (rule_of rule)) t i j bid (cleared_within rule t c).market_accepted li lj
    (before.place_shown.0 held) most in
    let paid = before.charge_shown in
    let floor : get_or c.exit.floors j 0 ≡ critical_at (position (rule_of rule)) t j =
    ap (λ s. get_or s.lists.floors j 0) (given_is rule t c) ∙ floor_shown (rule_of rule) t j lj in
    record {
      above_keeps = λ l. after.place_shown.1 (m.above_keeps (omega arith));
      below_loses = λ l. ap (λ s. place_in t' s.lists i j) (given_is rule t' c')
          ∙ (no_place_shown (rule_of rule) t' j lj i li).1 (m.below_loses (omega arith));
      equal_decides = λ e. (
        λ p. ⊎_elim
            (λ q. inl (omega arith))
            (λ (k, lk, o, s). inr (k, lk, (first_out_shown rule t c k j lk lj).1 o, s))
            ((m.equal_decides (e ∙ paid)).0 (after.place_shown.0 p)),
        λ x. after.place_shown.1 ((m.equal_decides (e ∙ paid)).1 (⊎_elim
            (λ q. inl (omega arith))
            (λ (k, lk, f, s). inr (k, lk, (first_out_shown rule t c k j lk lj).0 f, s))
            x)),
      );
    }
