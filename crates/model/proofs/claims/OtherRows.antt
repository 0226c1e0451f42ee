-- Request 11, proved: the market with another row of a guest is the market with other bids of that guest.
use Prim.Native.Nat.{ℕ, zero, suc, ◌*◌, ◌-◌, ◌≤◌, ◌<◌}
use mathlib.Core.Bool.{true, false}
use mathlib.Core.List.{List}
use mathlib.Core.Logic.{◌↔◌, ⊎_elim}
use mathlib.Core.Path.{◌≡◌, refl, sym, ap, ◌∙◌}
use native.Mathlib.Omega.{arith}
use lib.IntN.{ℤ, pos, sub_ℕ}
use lib.ListN.{get_or, length, replicate, length-replicate}
use Rattle.model.specs.Counting.{◌=?◌}
use Rattle.model.specs.Promises.{KeepsOut}
use Rattle.model.specs.Verdicts.{accepted, first_fault}
use Rattle.model.specs.market.Market.{Tables, bid_at, market_by, market, Screened, screen}
use Rattle.model.specs.market.Mechanism.{at, charged, obtained, truthful}
use Rattle.model.specs.market.Outcome.{screened, decision}
use Rattle.model.specs.market.Rules.{position, rule_of}
use Rattle.model.specs.market.Gains.{guest_gain}
use Rattle.model.specs.market.Changes.{with_row, gain, seat_change, change, changes, changes_with, trying_faults}
use Rattle.model.specs.market.Changes.{both_gains}
use Rattle.model.specs.claims.OtherRows.{ChangeTells, ChangesTellSeats, FewOthersChange}
use Rattle.model.specs.claims.OtherRows.{FewOthersChangeUnder, SecondGainNotLarger, SecondGainNotLargerUnder}
use Rattle.model.specs.claims.OtherRows.{TryingWithinLimits, TriedIffWithinLimits, TriedCall, TriedCallExists}
use Rattle.model.specs.claims.OtherRows.{TryTellsClearings, TriedMarketAccepted, FewOthersChangeCalls}
use Rattle.model.specs.claims.OtherRows.{SecondGainNotLargerCalls}
use Rattle.model.specs.claims.Truth.{screened_by, holds_by}
use Rattle.model.specs.claims.Reasons.{ExplainedCall, code_in}
use Rattle.model.specs.clauses.EntryPoints.{trying}
use Rattle.model.proofs.Tests.{decide, same_test, eq_yes, eq_no, is_eq}
use Rattle.model.proofs.Promises.{keeps_zero}
use Rattle.model.proofs.Verdicts.{number_accepted}
use Rattle.model.proofs.market.Truthful.{tickets_single, assigned_to_best}
use Rattle.model.proofs.market.Changes.{with_row_replaces_row, with_row_accepted}
use Rattle.model.proofs.market.Others.{few_changed, change_at, changes_long, changes_cong, places_cong}
use Rattle.model.proofs.market.Trying.{trying_within, trying_accept}
use Rattle.model.proofs.claims.Calls.{by_truthful, station_of_lem, guest_gain_lem}
use Rattle.model.proofs.claims.Promises.{zero_is_accepted, faults_numbered_from_one}
use Rattle.model.proofs.claims.Shown.{place_shown}
use Rattle.model.proofs.claims.Truth.{guest_truthful}

pub few_others_change : FewOthersChange
unfolding market_by
few_others_change rule t i row a li =
    few_changed (market_by rule t) (tickets_single t a) i li (bid_at (with_row t i row))
    (with_row_replaces_row t i row li).alike.same_bids

pub few_others_change_under : FewOthersChangeUnder
few_others_change_under rule = few_others_change (position rule)

-- ---- what the list of changes says

seat_tells :
    (x y : ℕ) → ((seat_change x y ≡ 1) ↔ ((x ≡ 0) × (y ≡ 0 → ⊥))) × ((seat_change x y ≡ 2) ↔ ((x ≡ 0 → ⊥) × (y ≡ 0)))
    × (seat_change x y ≤ 2)
unfolding seat_change
seat_tells zero zero = omega arith
seat_tells zero (suc y) = omega arith
seat_tells (suc x) zero = omega arith
seat_tells (suc x) (suc y) = omega arith

change_tells : (before after : ℕ → ℕ) (i k : ℕ) → ChangeTells before after i k (change before after i k)
unfolding change
change_tells before after i k = ⊎_elim
    (λ (q : (k =? i) ≡ true). rw q record {
      seated = (λ e. absurd (omega arith), λ (n, _, _). absurd (n (eq_yes _ _ q)));
      unseated = (λ e. absurd (omega arith), λ (n, _, _). absurd (n (eq_yes _ _ q)));
      most = omega arith;
    })
    (λ (q : (k =? i) ≡ false).
    let (seated, unseated, most) = seat_tells (before k) (after k) in
    rw q record {
      seated = (λ e. (eq_no _ _ q, (seated.0 e).0, (seated.0 e).1), λ (_, s, r). seated.1 (s, r));
      unseated = (λ e. (eq_no _ _ q, (unseated.0 e).0, (unseated.0 e).1), λ (_, s, r). unseated.1 (s, r));
      most = most;
    })
    (decide (k =? i))

pub changes_tell_seats : ChangesTellSeats
changes_tell_seats n before after i k lk = rw (change_at n before after i k lk) (change_tells before after i k)

-- ---- gains

-- a gain is by the worths at the stations alone
gain_cong :
    (S : Screened) (v w : ℕ → ℕ) (i : ℕ) → ((j : ℕ) → j < S.station_count → v j ≡ w j)
    → guest_gain S (truthful S) v i ≡ guest_gain S (truthful S) w i
unfolding guest_gain obtained at
gain_cong S v w i same = ap (λ x. sub_ℕ x (charged S (truthful S) i)) (go ((truthful S).assigned i) refl)
  where
    go : (r : ℕ) → (truthful S).assigned i ≡ r → at (λ j. v j * S.amount i) r ≡ at (λ j. w j * S.amount i) r
    go zero e = refl
    go (suc j) e = let (lj, _) = (assigned_to_best S i).somewhere j e in ap (λ x. x * S.amount i) (same j lj)

pub second_gain_not_larger : SecondGainNotLarger
unfolding screen market_by
second_gain_not_larger rule t i worths row a li w same =
    rw (
      gain_cong (screened_by rule (with_row t i row)) (λ j. get_or worths j 0) (bid_at t i) i same,
      gain_cong (screened_by rule t) (λ j. get_or worths j 0) (bid_at t i) i same,
    ) (guest_truthful rule t (with_row t i row) i a (with_row_accepted t i row a w) li
    (with_row_replaces_row t i row li).alike)

pub second_gain_not_larger_under : SecondGainNotLargerUnder
second_gain_not_larger_under rule = second_gain_not_larger (position rule)

-- ---- over calls

module _ (rule : ℕ) (t : Tables) (guest : ℕ) (worths row : List ℕ) where
  no_fault_found :
      (entry exit : List ℕ) (out out' : ℤ × ℤ) → KeepsOut (trying rule t guest worths row) entry out 0 exit out'
      → (first_fault (trying_faults rule t guest worths row (length entry)) ≡ accepted tt)
      × (exit ≡ changes_with (rule_of rule) t (guest - 1) row) × (out' ≡ both_gains (rule_of rule) t guest worths row)
  unfolding trying
  no_fault_found entry exit out out' c =
      zero_is_accepted (ℤ × ℤ) (List ℕ) (trying rule t guest worths row) entry exit out out'
      (faults_numbered_from_one.of_trying rule t guest worths row entry) c

  module _ (c : TriedCall rule t guest worths row) where
    limits : TryingWithinLimits rule t guest worths row (length c.entry)
    limits = trying_within rule t guest worths row _ (no_fault_found _ _ _ _ c.call).0

    left : c.exit ≡ changes_with (rule_of rule) t (guest - 1) row
    left = (no_fault_found _ _ _ _ c.call).1

    gave : (c.first_gain, c.second_gain) ≡ both_gains (rule_of rule) t guest worths row
    gave = (no_fault_found _ _ _ _ c.call).2

    first_gave : c.first_gain ≡ gain (rule_of rule) t (guest - 1) worths
    unfolding both_gains
    first_gave = ap (λ g. g.0) gave

    pub second_gave : c.second_gain ≡ gain (rule_of rule) (with_row t (guest - 1) row) (guest - 1) worths
    unfolding both_gains
    second_gave = ap (λ g. g.1) gave

    guest_below : guest - 1 < length t.amounts
    guest_below = omega (arith, limits.guest_least, limits.guest_most)

pub tried_iff_within_limits : TriedIffWithinLimits
unfolding trying
tried_iff_within_limits rule t guest worths row entry exit out out' number c = (
  λ z. trying_within rule t guest worths row _
      (no_fault_found rule t guest worths row entry exit out out' (rw z at c)).0,
  λ w. c.number_is ∙ number_accepted (trying_accept rule t guest worths row _ w),
)

pub tried_call_exists : TriedCallExists
unfolding trying both_gains
tried_call_exists rule t guest worths row names a least most fits fits' = record {
  entry = replicate (length t.amounts) 0;
  out = (pos 0, pos 0);
  exit = changes_with (rule_of rule) t (guest - 1) row;
  first_gain = gain (rule_of rule) t (guest - 1) worths;
  second_gain = gain (rule_of rule) (with_row t (guest - 1) row) (guest - 1) worths;
  call = keeps_zero (pos 0, pos 0) (trying_accept rule t guest worths row _ (record {
    rule_known = names;
    market_accepted = a;
    guest_least = least;
    guest_most = most;
    worths_fit = fits;
    row_fits = fits';
    changes_long = length-replicate {A = ℕ} (length t.amounts) 0;
  }));
}

pub tried_market_accepted : TriedMarketAccepted
tried_market_accepted rule t guest worths row c =
    let w = limits rule t guest worths row c in
    with_row_accepted t (guest - 1) row w.market_accepted w.row_fits

pub try_tells_clearings : TryTellsClearings
unfolding changes_with gain decision
try_tells_clearings rule t guest worths row c k k' =
    let i = guest - 1 in
    let t' = with_row t i row in
    let w : ℕ → ℕ = λ j. get_or worths j 0 in
    let li = guest_below rule t guest worths row c in
    let n = length t.amounts in
    let is : c.exit ≡ changes n (λ g. get_or k.exit.stations g 0) (λ g. get_or k'.exit.stations g 0) i =
    left rule t guest worths row c
    ∙ changes_cong n _ _ _ _ i (λ g lg. sym (station_of_lem truthful by_truthful rule t k g lg))
    (λ g lg. sym (station_of_lem truthful by_truthful rule t' k' g lg)) in
    record {
      first_is = first_gave rule t guest worths row c ∙ guest_gain_lem truthful by_truthful rule t k w i li;
      second_is = second_gave rule t guest worths row c ∙ guest_gain_lem truthful by_truthful rule t' k' w i li;
      list_long = ap length is ∙ changes_long _ _ _ _;
      tells = λ g lg. rw is (changes_tell_seats n _ _ i g lg);
    }

holds_shown :
    (rule : ℕ) (t : Tables) (i : ℕ) → i < length t.amounts → (e : ExplainedCall rule t) (j : ℕ)
    → j < length t.asks → (code_in t e.exit i j =? 0) ≡ holds_by (position (rule_of rule)) t i j
holds_shown rule t i li e j lj =
    let (shows, shown) = place_shown rule t e i j li lj in
    same_test _ _ (λ q. shows (eq_yes _ _ q)) (λ h. is_eq _ _ (shown h))

pub few_others_change_calls : FewOthersChangeCalls
unfolding changes_with decision screened market
few_others_change_calls rule t guest worths row c e e' =
    let i = guest - 1 in
    let li = guest_below rule t guest worths row c in
    rw (
      left rule t guest worths row c,
      places_cong (length t.asks) _ _ _ _ (holds_shown rule t i li e) (holds_shown rule (with_row t i row) i li e'),
    ) (few_others_change (position (rule_of rule)) t i row (limits rule t guest worths row c).market_accepted li)

pub second_gain_not_larger_calls : SecondGainNotLargerCalls
unfolding gain decision screened market
second_gain_not_larger_calls rule t guest worths row c same =
    let w = limits rule t guest worths row c in
    rw (first_gave rule t guest worths row c, second_gave rule t guest worths row c)
    (second_gain_not_larger (position (rule_of rule)) t (guest - 1) worths row w.market_accepted
    (guest_below rule t guest worths row c) w.row_fits same)
