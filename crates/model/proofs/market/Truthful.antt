-- Document 01's mechanism: whom it assigns, and that its decisions are fair.
use Prim.Native.Nat.{ℕ, suc, ◌*◌, ◌≤◌, ◌<◌}
use mathlib.Core.Bool.{true}
use mathlib.Core.Logic.{⊎_elim}
use mathlib.Core.Path.{◌≡◌, sym, ◌∙◌}
use native.Mathlib.Nat.{le_trans, mul-le-mul_right}
use native.Mathlib.Omega.{arith}
use lib.ListN.{get_or, length}
use Rattle.model.specs.market.Market.{Tables, bid_at, Market, market_by, market, cut, opens, Screened}
use Rattle.model.specs.market.Market.{screen, queue, provisional}
use Rattle.model.specs.market.Mechanism.{at, charge, charged, obtained, served, paid, surplus, truthful}
use Rattle.model.specs.market.Outcome.{screened, decision}
use Rattle.model.specs.declared.rule.Rule.{Rule}
use Rattle.model.specs.market.Faults.{Accepted}
use Rattle.model.specs.market.Gains.{guest_gain, station_gain}
use Rattle.model.specs.claims.Meaning.{ZeroBidIsNoCandidate, GainlessWithoutTrade, RanksCountUp}
use Rattle.model.specs.claims.Meaning.{EqualTotalsGoByTicket, TicketOfFirstOutBoundsTies}
use Rattle.model.specs.claims.Meaning.{CriticalIsTotalOfFirstOut, AssignedToBest, AssignedAtBestPlace, NoLoss}
use Rattle.model.proofs.Tests.{decide, eq_yes, lt_yes}
use Rattle.model.proofs.Counting.{count_mono}
use Rattle.model.proofs.market.Choice.{best_holds, best_best, best_lowest, best_none}
use Rattle.model.proofs.market.Queues.{equal_by_key, provisional_candidate, winners_fit, ranks_in_order}
use Rattle.model.proofs.market.Queues.{critical_is_first_out, first_out_bounds_ties}
use Rattle.model.proofs.market.Pivots.{critical_le}
use Rattle.model.proofs.market.Acceptance.{accepted_iff_within_limits, same_place}
use Rattle.model.proofs.market.Decisions.{Candidates, Fair, candidate_open, candidate_bid}

-- no two of n guests have one key
abbrev pub Keys : (ℕ → ℕ) → ℕ → Type 0
Keys key n = (k i : ℕ) → k < n → i < n → key k ≡ key i → k ≡ i

-- nor of an accepted market's guests one ticket
pub tickets_single : (t : Tables) → Accepted t → Keys (λ i. get_or t.tickets i 0) (length t.amounts)
tickets_single t a k i lk li e =
    let w = (accepted_iff_within_limits t).0 a in
    let long : length t.tickets ≡ length t.amounts = w.shape.tickets_length in
    same_place t.tickets w.tickets_differ k i (omega arith) (omega arith) e

pub accepted_keys :
    (rule : Rule) (t : Tables) → Accepted t → Keys (screened rule t).key (screened rule t).guest_count
unfolding screened market market_by screen
accepted_keys rule t a = tickets_single t a

pub assigned_to_best : (S : Screened) (i : ℕ) → AssignedToBest S (truthful S) i
unfolding truthful
assigned_to_best S i = record {
  nowhere = best_none _ _ _;
  somewhere = λ j e. best_holds _ _ _ j e;
  greatest = λ j k e lk p.
      let (x, q, s) = best_best S.station_count (λ j. provisional (queue S j) i) (surplus S i) k lk p in
      let same : x ≡ j = let z : suc x ≡ suc j = sym q ∙ e in omega arith in
      rw same at s;
  lowest = λ j k e l p. best_lowest _ _ _ j k e l p;
}

pub candidate_held : (S : Screened) (i j : ℕ) → provisional (queue S j) i ≡ true → S.candidate i j ≡ true
unfolding queue
candidate_held S i j h = provisional_candidate _ _ h

pub truthful_candidates : (S : Screened) → Candidates S (truthful S)
truthful_candidates S i j li e = let (lj, h) = (assigned_to_best S i).somewhere j e in (lj, candidate_held S i j h)

-- a winner's total is at least the critical total
pub critical_under :
    (S : Screened) → Keys S.key S.guest_count → (i j : ℕ) → i < S.guest_count → provisional (queue S j) i ≡ true
    → (truthful S).critical j ≤ S.total i j
unfolding truthful queue
critical_under S K i j li h = critical_le (queue S j) K i li h

pub truthful_fair : (S : Screened) → Keys S.key S.guest_count → Fair S (truthful S)
unfolding served queue
truthful_fair S K = record {
  candidates = truthful_candidates S;
  fits = λ j. le_trans (count_mono S.guest_count _ (provisional (queue S j))
      (λ i li p. ((assigned_to_best S i).somewhere j (eq_yes _ _ p)).1)) (winners_fit (queue S j) K);
  under = λ i j li e. critical_under S K i j li ((assigned_to_best S i).somewhere j e).1;
}

-- a winner is charged at most its total
pub charge_held :
    (M : Market) → Keys M.key M.guest_count → (i j : ℕ) → i < M.guest_count
    → provisional (queue (screen M) j) i ≡ true
    → charge (screen M) (truthful (screen M)) i j ≤ M.bid i j * M.amount i
unfolding charge screen
charge_held M K i j li h =
    omega (
      arith,
      mul-le-mul_right (M.amount i) (candidate_bid M i j (candidate_held (screen M) i j h)),
      critical_under (screen M) K i j li h,
    )

-- ---- how the definitions read

pub zero_bid_is_no_candidate : ZeroBidIsNoCandidate
unfolding screened market market_by opens
zero_bid_is_no_candidate rule t i j e = ⊎_elim
    (λ (c : (screened rule t).candidate i j ≡ true).
    let open_ask : get_or t.asks j 0 < cut (market rule t) = lt_yes _ _ (candidate_open (market rule t) i j c) in
    absurd (omega (arith, candidate_bid (market rule t) i j c)))
    (λ c. c)
    (decide ((screened rule t).candidate i j))

pub gainless_without_trade : GainlessWithoutTrade
unfolding guest_gain station_gain obtained charged at paid
gainless_without_trade S D = record {
  guest_gainless = λ w i e. rw e;
  station_gainless =
      λ cost j e. let z : S.cut * 0 ≡ 0 = omega arith in let c : cost * 0 ≡ 0 = omega arith in rw (e, z, c);
}

pub ranks_count_up : RanksCountUp
unfolding screened screen market market_by queue
ranks_count_up rule t a j = ranks_in_order (queue (screened rule t) j) (tickets_single t a)

-- in an accepted market a candidate's total is not 0
total_positive :
    (rule : Rule) (t : Tables) → Accepted t → (i j : ℕ) → i < length t.amounts
    → (screened rule t).candidate i j ≡ true
    → 0 < (screened rule t).total i j
unfolding screened screen market market_by opens
total_positive rule t a i j li c =
    let open_ask : get_or t.asks j 0 < cut (market rule t) = lt_yes _ _ (candidate_open (market rule t) i j c) in
    let bid : 1 ≤ bid_at t i j = omega (arith, candidate_bid (market rule t) i j c) in
    omega (arith, ((accepted_iff_within_limits t).0 a).amount_least i li, mul-le-mul_right (get_or t.amounts i 0) bid)

pub critical_is_total_of_first_out : CriticalIsTotalOfFirstOut
unfolding screened screen market market_by queue
critical_is_total_of_first_out rule t a j =
    critical_is_first_out (queue (screened rule t) j) (tickets_single t a) (λ i li c. total_positive rule t a i j li c)

pub equal_totals_go_by_ticket : EqualTotalsGoByTicket
unfolding screened screen market market_by queue
equal_totals_go_by_ticket rule t j k i e = equal_by_key (queue (screened rule t) j) k i e

pub ticket_of_first_out_bounds_ties : TicketOfFirstOutBoundsTies
unfolding screened screen market market_by queue
ticket_of_first_out_bounds_ties rule t a j k i lk li o c e =
    first_out_bounds_ties (queue (screened rule t) j) (tickets_single t a) k i lk li o c e

pub assigned_at_best_place : AssignedAtBestPlace
unfolding decision
assigned_at_best_place rule t i = assigned_to_best (screened rule t) i

pub no_loss : NoLoss
unfolding surplus charge screened decision screen market market_by truthful
no_loss rule t a i j li h = omega (arith, charge_held (market rule t) (tickets_single t a) i j li h)
