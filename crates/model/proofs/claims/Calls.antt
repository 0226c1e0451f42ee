-- Demand 3's first two sentences, proved of calls: a call that was answered as cleared leaves the outcome.
use Prim.Native.Nat.{ℕ, suc, ◌+◌, ◌*◌, ◌<◌}
use mathlib.Core.Path.{◌≡◌, refl, sym, ap, ap₂, ◌∙◌}
use native.Mathlib.Omega.{arith}
use lib.IntN.{sub_ℕ}
use lib.ListN.{get_or, length, replicate, length-replicate}
use Rattle.model.specs.Counting.{◌=?◌, only, sum}
use Rattle.model.specs.clauses.EntryPoints.{clearing}
use Rattle.model.specs.Numbers.{answer_of_clearing}
use Rattle.model.proofs.Promises.{keeps_accepted, was_accepted}
use Rattle.model.specs.market.Market.{Tables, bid_at, market_by, market, Screened, screen}
use Rattle.model.specs.market.Mechanism.{Decision, at, charged, obtained, served, sold, paid, margin, truthful}
use Rattle.model.specs.market.Efficient.{efficient}
use Rattle.model.specs.market.Outcome.{Results, Outcome, results, outcome_by, screened, decision, outcome}
use Rattle.model.specs.market.Outcome.{efficient_decision, efficient_outcome}
use Rattle.model.specs.market.Faults.{Accepted}
use Rattle.model.specs.declared.rule.Rule.{Rule}
use Rattle.std.specs.Prelude.{Ok}
use Rattle.model.specs.market.Rules.{position, rule_of}
use Rattle.model.specs.market.Gains.{guest_gain, station_gain}
use Rattle.model.specs.claims.Meaning.{RightLengths}
use Rattle.model.specs.claims.Truth.{StationTruthfulBy, ClearsWithin}
use Rattle.model.proofs.Counting.{sum_cong, count_cong, get_d_list}
use Rattle.model.proofs.market.Acceptance.{accepted_iff_within_limits, call_accepted_iff_within_limits}
use Rattle.model.proofs.claims.Truth.{guest_truthful_under, station_truthful_under, clearing_limits}
use Rattle.model.proofs.claims.Efficient.{efficient_station_truthful_under, efficient_limits}
use Rattle.model.specs.claims.Calls.{ClearedCallBy, ClearedCallExists, guest_gain_in, station_gain_in}
use Rattle.model.specs.claims.Calls.{GuestTruthfulCalls}
use Rattle.model.specs.claims.Calls.{StationTruthfulCallsBy, StationTruthfulCalls, EfficientStationTruthfulCalls}
use Rattle.model.specs.claims.Calls.{CallWithin, CallLimits, EfficientCallLimits}
use Rattle.model.proofs.clauses.Accepts.{accepted_call}

-- a call that clears by a mechanism
module _ {made : Rule → Tables → Outcome} (mechanism : Screened → Decision)
    (made_by : (rule : Rule) (t : Tables) → made rule t ≡ outcome_by (screened rule t) (mechanism (screened rule t)))
    (rule : ℕ) (t : Tables) (k : ClearedCallBy made rule t) where
  abbrev D : Decision
  D = mechanism (screened (rule_of rule) t)

  is_accepted : Accepted t
  unfolding clearing
  is_accepted = (accepted_iff_within_limits t).1
      (accepted_call rule t k.entry (was_accepted k.call k.cleared).0).within

  leaves : k.exit ≡ (outcome_by (screened (rule_of rule) t) D).results
  unfolding clearing
  leaves = (was_accepted k.call k.cleared).2 ∙ ap (λ o. o.results) (made_by (rule_of rule) t)

  margin_is : k.margin ≡ margin (screened (rule_of rule) t) D
  unfolding clearing outcome_by
  margin_is =
      sym (ap (λ p. p.1) (was_accepted k.call k.cleared).1) ∙ ap (λ o. o.margin) (made_by (rule_of rule) t)

  pub station_of_lem : (i : ℕ) → i < length t.amounts → get_or k.exit.stations i 0 ≡ D.assigned i
  unfolding outcome_by screened screen market market_by
  station_of_lem i l = ap (λ r. get_or r.stations i 0) leaves ∙ get_d_list _ _ i l

  charge_of_lem : (i : ℕ) → i < length t.amounts → get_or k.exit.charges i 0 ≡ charged (screened (rule_of rule) t) D i
  unfolding outcome_by screened screen market market_by
  charge_of_lem i l = ap (λ r. get_or r.charges i 0) leaves ∙ get_d_list _ _ i l

  sold_of_lem : (j : ℕ) → j < length t.asks → get_or k.exit.sold j 0 ≡ sold (screened (rule_of rule) t) D j
  unfolding outcome_by screened screen market market_by
  sold_of_lem j l = ap (λ r. get_or r.sold j 0) leaves ∙ get_d_list _ _ j l

  paid_of_lem : (j : ℕ) → j < length t.asks → get_or k.exit.paid j 0 ≡ paid (screened (rule_of rule) t) D j
  unfolding outcome_by screened screen market market_by
  paid_of_lem j l = ap (λ r. get_or r.paid j 0) leaves ∙ get_d_list _ _ j l

  -- the gains that the lists show are those of the definitions
  pub guest_gain_lem :
      (w : ℕ → ℕ) (i : ℕ) → i < length t.amounts
      → guest_gain (screened (rule_of rule) t) D w i ≡ guest_gain_in t k.exit w i
  unfolding guest_gain guest_gain_in obtained screened screen market market_by
  guest_gain_lem w i l =
      ap₂ sub_ℕ (ap (at (λ j. w j * get_or t.amounts i 0)) (sym (station_of_lem i l))) (sym (charge_of_lem i l))

  station_gain_lem :
      (cost j : ℕ) → j < length t.asks
      → station_gain (screened (rule_of rule) t) D cost j ≡ station_gain_in k.exit cost j
  unfolding station_gain station_gain_in
  station_gain_lem cost j l = ap₂ sub_ℕ (sym (paid_of_lem j l)) (ap (λ x. cost * x) (sym (sold_of_lem j l)))

  module _ (w : ClearsWithin (rule_of rule) t D) where
    level :
        sum (length t.amounts) (λ i. get_or k.exit.charges i 0)
        ≡ sum (length t.asks) (λ j. get_or k.exit.paid j 0) + k.margin
    level =
        sum_cong (length t.amounts) _ _ charge_of_lem ∙ w.balanced
        ∙ ap₂ ◌+◌ (sum_cong (length t.asks) _ _ (λ j l. sym (paid_of_lem j l))) (sym margin_is)

    limits : CallWithin t k.margin k.exit
    unfolding served screened screen market market_by
    limits = record {
      charge_within_bid = λ i j l e. rw (charge_of_lem i l) (w.charge_within_bid i j l (sym (station_of_lem i l) ∙ e));
      unassigned_free = λ i l e. charge_of_lem i l ∙ w.unassigned_free i (sym (station_of_lem i l) ∙ e);
      payment_covers_ask = λ j l. rw (sold_of_lem j l, paid_of_lem j l) (w.payment_covers_ask j);
      sold_as_assigned = λ j l. sold_of_lem j l ∙ w.sold_as_assigned j
          ∙ sum_cong (length t.amounts) _ _
          (λ i li. ap (λ s. only (s =? suc j) (get_or t.amounts i 0)) (sym (station_of_lem i li)));
      within_bays = λ j l. rw (count_cong (length t.amounts) _ (λ i. D.assigned i =? suc j)
          (λ i li. ap (λ s. s =? suc j) (station_of_lem i li))) (w.within_bays j);
      balanced = level;
      covered = omega (arith, level);
    }

station_truthful_calls_by :
    {made : Rule → Tables → Outcome} (mechanism : Screened → Decision)
    → ((rule : Rule) (t : Tables) → made rule t ≡ outcome_by (screened rule t) (mechanism (screened rule t)))
    → ((rule : Rule) → StationTruthfulBy mechanism (position rule)) → StationTruthfulCallsBy made
unfolding screened market
station_truthful_calls_by mechanism made_by truth rule t t' k k' j l A =
    rw (
      ← station_gain_lem mechanism made_by rule t k (get_or t.asks j 0) j l,
      ← station_gain_lem mechanism made_by rule t' k' (get_or t.asks j 0) j (omega (arith, A.same_count)),
    ) (truth (rule_of rule) t t' j (is_accepted mechanism made_by rule t k)
    (is_accepted mechanism made_by rule t' k') l A)

-- `clear` clears by document 01's mechanism, `clear_efficient` by the efficient one
pub by_truthful : (rule : Rule) (t : Tables)
    → outcome rule t ≡ outcome_by (screened rule t) (truthful (screened rule t))
unfolding outcome decision
by_truthful rule t = refl

by_efficient :
    (rule : Rule) (t : Tables) → efficient_outcome rule t ≡ outcome_by (screened rule t) (efficient (screened rule t))
unfolding efficient_outcome efficient_decision
by_efficient rule t = refl

pub guest_truthful_calls : GuestTruthfulCalls
unfolding screened market
guest_truthful_calls rule t t' k k' i l A =
    rw (
      ← guest_gain_lem truthful by_truthful rule t k (bid_at t i) i l,
      ← guest_gain_lem truthful by_truthful rule t' k' (bid_at t i) i (omega (arith, ap length A.same_amounts)),
    ) (guest_truthful_under (rule_of rule) t t' i (is_accepted truthful by_truthful rule t k)
    (is_accepted truthful by_truthful rule t' k') l A)

pub station_truthful_calls : StationTruthfulCalls
station_truthful_calls = station_truthful_calls_by truthful by_truthful station_truthful_under

pub efficient_station_truthful_calls : EfficientStationTruthfulCalls
efficient_station_truthful_calls = station_truthful_calls_by efficient by_efficient efficient_station_truthful_under

pub call_limits : CallLimits
unfolding decision
call_limits rule t k =
    limits truthful by_truthful rule t k
    (clearing_limits (rule_of rule) t (is_accepted truthful by_truthful rule t k))

pub efficient_call_limits : EfficientCallLimits
unfolding efficient_decision
efficient_call_limits rule t k =
    limits efficient by_efficient rule t k
    (efficient_limits (rule_of rule) t (is_accepted efficient by_efficient rule t k))

-- ---- there are such calls

-- result lists as long as they have to be
module _ (t : Tables) where
  pub room : Results
  room = results (replicate (length t.amounts) 0) (replicate (length t.amounts) 0)
      (replicate (length t.asks) 0) (replicate (length t.asks) 0)

  pub room_fits : RightLengths t room
  unfolding room
  room_fits = record {
    stations_long = length-replicate {A = ℕ} (length t.amounts) 0;
    charges_long = length-replicate {A = ℕ} (length t.amounts) 0;
    sold_long = length-replicate {A = ℕ} (length t.asks) 0;
    paid_long = length-replicate {A = ℕ} (length t.asks) 0;
  }

pub cleared_call_exists : ClearedCallExists
unfolding clearing answer_of_clearing
cleared_call_exists made rule t r a =
    let o = made (rule_of rule) t in
    record {
      entry = room t;
      answer = Ok (record { cut = record { 0 = o.cut }; margin = record { 0 = o.margin } });
      cut = o.cut;
      margin = o.margin;
      exit = o.results;
      call = keeps_accepted ((call_accepted_iff_within_limits rule t (room t)).1
          (record { rule_known = r; market_accepted = a; lists_fit = room_fits t })) refl refl;
      cleared = refl;
    }
