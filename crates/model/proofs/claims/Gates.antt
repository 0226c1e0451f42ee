-- Request 9, proved: each guest of the joined market is a guest of its own gate's.
use Prim.Native.Nat.{ℕ, ◌+◌, ◌*◌, ◌≤◌, ◌<◌}
use mathlib.Core.Bool.{Bool}
use mathlib.Core.List.{◌++◌}
use mathlib.Core.Path.{◌≡◌, refl, sym, ap, ap₂, subst, ◌∙◌}
use native.Mathlib.Nat.{mul-le-mul_right, add-mul}
use native.Mathlib.Omega.{arith}
use lib.ListN.{get_or, length, length-append, replicate, length-replicate}
use lib.Seq.{get_or-append-add}
use Rattle.model.specs.Limits.{max_price, max_amount}
use Rattle.model.specs.Counting.{◌<?◌, count}
use Rattle.model.specs.Promises.{RepliesOut}
use Rattle.model.specs.Verdicts.{accepted, first_fault}
use Rattle.model.specs.market.Market.{Tables, bid_at, market_by, cut, opens}
use Rattle.model.specs.market.Faults.{Accepted}
use Rattle.model.specs.market.Rules.{position, rule_of}
use Rattle.model.specs.market.Gates.{together, Joinable, joining_faults, joined_tables}
use Rattle.model.specs.sheet.Lent.{LentTables, lent_tables}
use Rattle.model.specs.clauses.EntryPoints.{joining}
use Rattle.model.specs.claims.Meaning.{WithinLimits}
use Rattle.model.specs.claims.Gates.{TogetherAccepted, SameGuest, GuestsOfBoth, TogetherHasGuestsOfBoth}
use Rattle.model.specs.claims.Gates.{HeldAlready, JoiningGivesNoPlace, JoiningGivesNoPlaceUnder, market_of}
use Rattle.model.specs.claims.Gates.{JoinedIffWithinLimits, JoinedCallExists}
use Rattle.model.specs.claims.Gates.{JoinedCallLeavesTogether, ShownAlready, JoiningGivesNoPlaceCalls}
use Rattle.model.specs.claims.Reasons.{ExplainedCall}
use Rattle.model.proofs.Promises.{keeps_zero}
use Rattle.model.proofs.Verdicts.{number_accepted}
use Rattle.model.proofs.market.Acceptance.{accepted_iff_within_limits}
use Rattle.model.proofs.market.Gates.{count_first_part, count_last_part, place_held_already, charge_rises}
use Rattle.model.proofs.market.Joining.{in_first, each_of_both, differ_both, joining_within, joining_accept}
use Rattle.model.proofs.claims.Promises.{zero_is_accepted, faults_numbered_from_one}
use Rattle.model.proofs.claims.Shown.{place_shown, charge_shown}

-- ---- the joined market

module _ (t u : Tables) (a : Accepted t) (b : Accepted u) (G : Joinable t u) where
  w : WithinLimits t
  w = (accepted_iff_within_limits t).0 a

  w' : WithinLimits u
  w' = (accepted_iff_within_limits u).0 b

  as_many : length u.asks ≡ length t.asks
  as_many = ap length G.same_asks

  bids_long : length u.bids ≡ length u.amounts * length t.asks
  bids_long = w'.shape.bids_length ∙ ap (λ m. length u.amounts * m) as_many

  accepted_together : Accepted (together t u)
  accepted_together =
      (accepted_iff_within_limits (together t u)).1 record {
        shape = record {
          guests_most = rw (length-append t.amounts u.amounts) G.guests_most;
          stations_least = w.shape.stations_least;
          stations_most = w.shape.stations_most;
          bays_length = w.shape.bays_length;
          tickets_length =
              length-append t.tickets u.tickets
              ∙ ap₂ ◌+◌ w.shape.tickets_length w'.shape.tickets_length
              ∙ sym (length-append t.amounts u.amounts);
          bids_length =
              length-append t.bids u.bids ∙ ap₂ ◌+◌ w.shape.bids_length bids_long
              ∙ sym (add-mul (length t.amounts) (length u.amounts) (length t.asks))
              ∙ ap (λ n. n * length t.asks) (sym (length-append t.amounts u.amounts));
          width_is = refl;
        };
        ask_most = w.ask_most;
        bays_least = w.bays_least;
        bays_most = w.bays_most;
        amount_least = each_of_both t.amounts u.amounts (λ x. 1 ≤ x) w.amount_least w'.amount_least;
        amount_most = each_of_both t.amounts u.amounts (λ x. x ≤ max_amount) w.amount_most w'.amount_most;
        tickets_differ =
            differ_both t.tickets u.tickets w.tickets_differ w'.tickets_differ G.tickets_apart;
        bid_most = each_of_both t.bids u.bids (λ x. x ≤ max_price) w.bid_most w'.bid_most;
      }

  guests_of_both : GuestsOfBoth t u
  unfolding bid_at
  guests_of_both = record {
    guests = length-append t.amounts u.amounts;
    first_gate = λ i li. record {
      same_amount = in_first t.amounts u.amounts i li;
      same_ticket = in_first t.tickets u.tickets i (omega (arith, w.shape.tickets_length));
      same_bids = λ j lj. in_first t.bids u.bids _
          (omega (arith, w.shape.bids_length, mul-le-mul_right (length t.asks) li));
    };
    second_gate = λ i li. record {
      same_amount = get_or-append-add t.amounts u.amounts i 0;
      same_ticket = rw (← w.shape.tickets_length) (get_or-append-add t.tickets u.tickets i 0);
      same_bids = λ j lj.
          let place : (length t.amounts + i) * length t.asks + j ≡ length t.bids + (i * length u.asks + j) =
          omega (arith, w.shape.bids_length, ap (λ m. i * m) as_many) in
          ap (λ q. get_or (t.bids ++ u.bids) q 0) place
          ∙ get_or-append-add t.bids u.bids (i * length u.asks + j) 0;
    };
  }

pub together_accepted : TogetherAccepted
together_accepted = accepted_together

pub together_has_guests_of_both : TogetherHasGuestsOfBoth
together_has_guests_of_both = guests_of_both

-- ---- places and charges: guest k of one market is guest `new k` of the other, at the same stations

module _ (rule : ℕ → ℕ) (own both : Tables) (asks : own.asks ≡ both.asks) (bays : own.bays ≡ both.bays)
    (new : ℕ → ℕ) (inside : (k : ℕ) → k < length own.amounts → new k < length both.amounts)
    (more : (f : ℕ → Bool) → count (length own.amounts) (λ k. f (new k)) ≤ count (length both.amounts) f)
    (same : (k : ℕ) → k < length own.amounts → SameGuest own both k (new k))
    (j : ℕ) (lj : j < length own.asks) where
  same_cut : cut (market_by rule own) ≡ cut (market_by rule both)
  unfolding market_by cut
  same_cut = rw asks

  same_open : opens (market_by rule own) j ≡ opens (market_by rule both) j
  unfolding market_by opens
  same_open = ap₂ ◌<?◌ (ap (λ l. get_or l j 0) asks) same_cut

  already : (i : ℕ) → i < length own.amounts → HeldAlready rule own both i (new i) j
  unfolding market_by
  already i li =
      let M = market_by rule own in
      let N = market_by rule both in
      let here : get_or own.bays j 0 ≡ get_or both.bays j 0 = ap (λ l. get_or l j 0) bays in
      record {
        held = place_held_already M N j new inside more same_cut same_open here (λ k lk. sym (same k lk).same_amount)
            (λ k lk. sym ((same k lk).same_bids j lj)) (λ k lk. sym (same k lk).same_ticket) i li;
        charge_no_lower = charge_rises M N j new inside more same_cut same_open here
            (λ k lk. sym (same k lk).same_amount) (λ k lk. sym ((same k lk).same_bids j lj))
            (λ k lk. sym (same k lk).same_ticket) i li;
      }

pub joining_gives_no_place : JoiningGivesNoPlace
joining_gives_no_place rule t u a b G j lj =
    let both = guests_of_both t u a b G in
    record {
      first_gate = already rule t (together t u) refl refl (λ k. k) (λ k lk. omega (arith, both.guests))
          (λ f. rw both.guests (count_first_part (length t.amounts) (length u.amounts) f)) both.first_gate
          j lj;
      second_gate = already rule u (together t u) G.same_asks G.same_bays (λ k. length t.amounts + k)
          (λ k lk. omega (arith, both.guests))
          (λ f. rw both.guests (count_last_part (length t.amounts) (length u.amounts) f)) both.second_gate
          j (omega (arith, ap length G.same_asks));
    }

pub joining_gives_no_place_under : JoiningGivesNoPlaceUnder
joining_gives_no_place_under rule = joining_gives_no_place (position rule)

-- ---- over calls

no_fault_found :
    (t u : Tables) (entry exit : LentTables) → RepliesOut (joining t u) entry 0 exit
    → (first_fault (joining_faults t u entry) ≡ accepted tt) × (exit ≡ joined_tables t u)
unfolding joining
no_fault_found t u entry exit c =
    let (v, left, _) = zero_is_accepted Unit LentTables (joining t u) entry exit tt tt
    (faults_numbered_from_one.of_joining t u entry) c in
    (v, left)

pub joined_iff_within_limits : JoinedIffWithinLimits
unfolding joining
joined_iff_within_limits t u entry exit number c = (
  λ z. joining_within t u entry (no_fault_found t u entry exit (rw z at c)).0,
  λ w. c.number_is ∙ number_accepted (joining_accept t u entry w),
)

pub joined_call_exists : JoinedCallExists
unfolding joining
joined_call_exists t u a b G =
    let n = length t.amounts + length u.amounts in
    let m = length t.asks in
    record {
      entry = lent_tables (replicate n 0) (replicate n 0) (replicate m 0) (replicate m 0) (replicate (n * m) 0);
      exit = joined_tables t u;
      call = keeps_zero tt (joining_accept t u _ (record {
        first_accepted = a;
        second_accepted = b;
        joinable = G;
        amounts_long = length-replicate {A = ℕ} n 0;
        tickets_long = length-replicate {A = ℕ} n 0;
        asks_long = length-replicate {A = ℕ} m 0;
        bays_long = length-replicate {A = ℕ} m 0;
        bids_long = length-replicate {A = ℕ} (n * m) 0;
      }));
    }

pub joined_call_leaves_together : JoinedCallLeavesTogether
unfolding joined_tables
joined_call_leaves_together t u c =
    let (v, left) = no_fault_found t u c.entry c.exit c.call in
    let w = joining_within t u c.entry v in
    let is : market_of c.exit ≡ together t u = ap market_of left in
    record {
      is = is;
      first_accepted = w.first_accepted;
      second_accepted = w.second_accepted;
      joinable = w.joinable;
      accepted_too =
          subst (λ b. Accepted b) (sym is)
          (accepted_together t u w.first_accepted w.second_accepted w.joinable);
    }

shown_already :
    (rule : ℕ) (own both : Tables) (i k j : ℕ) → i < length own.amounts → k < length both.amounts
    → j < length own.asks → j < length both.asks → HeldAlready (position (rule_of rule)) own both i k j
    → (e : ExplainedCall rule own) (e' : ExplainedCall rule both) → ShownAlready own both i k j e.exit e'.exit
shown_already rule own both i k j li lk lj lj' H e e' = record {
  held = λ z. (place_shown rule own e i j li lj).1 (H.held ((place_shown rule both e' k j lk lj').0 z));
  charge_no_lower = λ p q.
      rw (charge_shown rule own e i j li p, charge_shown rule both e' k j lk q) H.charge_no_lower;
}

pub joining_gives_no_place_calls : JoiningGivesNoPlaceCalls
joining_gives_no_place_calls rule t u c e e' e'' j lj =
    let J = joined_call_leaves_together t u c in
    let b = market_of c.exit in
    let P = position (rule_of rule) in
    let G = joining_gives_no_place P t u J.first_accepted J.second_accepted J.joinable j lj in
    let guests : length b.amounts ≡ length t.amounts + length u.amounts =
    ap (λ b. length b.amounts) J.is ∙ length-append t.amounts u.amounts in
    let stations : length b.asks ≡ length t.asks = ap (λ b. length b.asks) J.is in
    record {
      first_gate = λ i li.
          shown_already rule t b i i j li (omega arith) lj (omega arith)
          (subst (λ b. HeldAlready P t b i i j) (sym J.is) (G.first_gate i li)) e e'';
      second_gate = λ i li.
          let k = length t.amounts + i in
          shown_already rule u b i k j li (omega arith) (omega (arith, ap length J.joinable.same_asks))
          (omega arith) (subst (λ b. HeldAlready P u b i k j) (sym J.is) (G.second_gate i li)) e' e'';
    }
