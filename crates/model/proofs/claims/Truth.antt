-- Demand 3, first two sentences, proved: two tables that are alike are one market with other bids or another ask.
use Prim.Native.Nat.{ℕ, suc, ◌+◌, ◌*◌, ◌-◌, ◌≤◌, ◌<◌}
use mathlib.Core.Bool.{Bool, true, false, cond}
use mathlib.Core.Logic.{⊎_elim}
use mathlib.Core.Path.{◌≡◌, refl, sym, ap, subst, ◌∙◌}
use native.Mathlib.Omega.{arith}
use lib.Dec.{T, ltb, leb→le, le→leb}
use lib.IntN.{pos, negsuc, sub_ℕ}
use lib.ListN.{get_or, length, get_or-eq_default}
use lib.Signed.{le_z}
use borrow.Author.Tests.{ltb-true, ltb-false}
use Rattle.model.specs.Counting.{sum}
use Rattle.model.specs.market.Market.{Tables, bid_at, Market, market_by, market, Screened, screen}
use Rattle.model.specs.market.Mechanism.{Decision, at, charged, obtained, sold, paid, margin, truthful}
use Rattle.model.specs.market.Outcome.{screened, decision}
use Rattle.model.specs.market.Rules.{position}
use Rattle.model.specs.declared.rule.Rule.{Rule}
use Rattle.model.specs.market.Faults.{Accepted}
use Rattle.model.specs.market.Menus.{choice, menu_of}
use Rattle.model.specs.market.Gains.{guest_gain, station_gain}
use Rattle.model.specs.claims.Truth.{AlikeButForGuest, AlikeButForStation, GuestTruthful, StationTruthful}
use Rattle.model.specs.claims.Truth.{StationTruthfulBy, SignedIffUnsigned, MenuOf, GuestMenu}
use Rattle.model.specs.claims.Truth.{ClearsWithin, ClearingLimits, GuestTruthfulUnder, StationTruthfulUnder}
use Rattle.model.proofs.Tests.{lt_or_le}
use Rattle.model.proofs.market.Acceptance.{accepted_iff_within_limits}
use Rattle.model.proofs.market.Decisions.{Candidates, Fair, charged_within_bid, payment_covers_ask, balance}
use Rattle.model.proofs.market.Truthful.{tickets_single, accepted_keys, truthful_candidates, truthful_fair}
use Rattle.model.proofs.market.Menus.{choice_truth, menu_below, menu_near, rebid, menu_assigned}
use Rattle.model.proofs.market.Menus.{menu_charged}
use Rattle.model.proofs.market.Stations.{reask, station_truth}

-- ---- signed gains

signed : (a b c d : ℕ) → T (le_z (sub_ℕ a b) (sub_ℕ c d)) → a + d ≤ c + b
signed a b c d = go (ltb a b) refl (ltb c d) refl
  where
    go : (x : Bool) → ltb a b ≡ x → (y : Bool) → ltb c d ≡ y
        → T (le_z (cond x (negsuc (b - suc a)) (pos (a - b)))
        (cond y (negsuc (d - suc c)) (pos (c - d)))) → a + d ≤ c + b
    go true p true q h = omega (arith, ltb-true a b p, ltb-true c d q, leb→le (d - suc c) (b - suc a) h)
    go true p false q h = omega (arith, ltb-true a b p, ltb-false c d q)
    go false p true q h = absurd h
    go false p false q h = omega (arith, ltb-false a b p, ltb-false c d q, leb→le (a - b) (c - d) h)

unsigned : (a b c d : ℕ) → a + d ≤ c + b → T (le_z (sub_ℕ a b) (sub_ℕ c d))
unsigned a b c d h = go (ltb a b) refl (ltb c d) refl
  where
    go : (x : Bool) → ltb a b ≡ x → (y : Bool) → ltb c d ≡ y
        → T (le_z (cond x (negsuc (b - suc a)) (pos (a - b))) (cond y (negsuc (d - suc c)) (pos (c - d))))
    go true p true q = le→leb (d - suc c) (b - suc a) (omega (arith, ltb-true a b p, ltb-true c d q))
    go true p false q = tt
    go false p true q = absurd (omega (arith, ltb-false a b p, ltb-true c d q))
    go false p false q = le→leb (a - b) (c - d) (omega (arith, ltb-false a b p, ltb-false c d q))

pub signed_iff_unsigned : SignedIffUnsigned
signed_iff_unsigned a b c d = (λ h. signed a b c d h.le, λ h. record { le = unsigned a b c d h })

-- ---- guests

module _ (t t' : Tables) (i : ℕ) (A : AlikeButForGuest t t' i) where
  pub rebid_market : (rule : ℕ → ℕ) → rebid (market_by rule t) (bid_at t') ≡ market_by rule t'
  unfolding market_by
  rebid_market rule = λ x. record {
    guest_count = length (sym A.same_amounts x);
    station_count = length (sym A.same_asks x);
    position = rule (length (sym A.same_asks x));
    ask = λ j. get_or (sym A.same_asks x) j 0;
    bays = λ j. get_or (sym A.same_bays x) j 0;
    amount = λ i. get_or (sym A.same_amounts x) i 0;
    bid = bid_at t';
    key = λ i. get_or (sym A.same_tickets x) i 0;
  }

module _ (rule : ℕ → ℕ) (t : Tables) (i : ℕ) (a : Accepted t) (li : i < length t.amounts) where
  abbrev M : Market
  M = market_by rule t

  -- in N guest i is assigned its choice by the totals that it states there, and charged the price
  abbrev ByMenu : Market → Type 0
  ByMenu N = ((truthful (screen N)).assigned i ≡ choice (length t.asks) (menu_of M i) ((screen N).total i))
      × (charged (screen N) (truthful (screen N)) i
      ≡ at (menu_of M i).price (choice (length t.asks) (menu_of M i) ((screen N).total i)))

  rebid_by_menu :
      (b : ℕ → ℕ → ℕ) → ((k j : ℕ) → k < length t.amounts → j < length t.asks → (k ≡ i → ⊥) → b k j ≡ bid_at t k j)
      → ByMenu (rebid M b)
  unfolding market_by
  rebid_by_menu b alike =
      let w = (accepted_iff_within_limits t).0 a in (
        menu_assigned M (tickets_single t a) i li (w.amount_least i li) w.bays_least b alike,
        menu_charged M (tickets_single t a) i li (w.amount_least i li) w.bays_least b alike,
      )

  pub by_menu : (t' : Tables) → AlikeButForGuest t t' i → ByMenu (market_by rule t')
  by_menu t' A = subst ByMenu (rebid_market t t' i A rule) (rebid_by_menu (bid_at t') A.same_bids)

  -- in its own market by its true totals
  worths : ℕ → ℕ
  worths j = bid_at t i j * (screen M).amount i

  by_worths : ((truthful (screen M)).assigned i ≡ choice (length t.asks) (menu_of M i) worths)
      × (charged (screen M) (truthful (screen M)) i
      ≡ at (menu_of M i).price (choice (length t.asks) (menu_of M i) worths))
  unfolding worths screen market_by
  by_worths = rebid_by_menu (bid_at t) (λ k j lk lj n. refl)

  obtained_worths : (t' : Tables) → AlikeButForGuest t t' i → let S' = screen (market_by rule t') in
      obtained S' (truthful S') (bid_at t i) i ≡ at worths ((truthful S').assigned i)
  unfolding obtained worths screen market_by
  obtained_worths t' A =
      ap (λ x. at (λ j. bid_at t i j * get_or x i 0) ((truthful (screen (market_by rule t'))).assigned i))
      A.same_amounts

  gains_no_more :
      (t' : Tables) → AlikeButForGuest t t' i → let S = screen M in let S' = screen (market_by rule t') in
      obtained S' (truthful S') (bid_at t i) i + charged S (truthful S) i
      ≤ obtained S (truthful S) (bid_at t i) i + charged S' (truthful S') i
  gains_no_more t' A =
      let (e, c) = by_worths in
      let (e', c') = by_menu t' A in
      let own = obtained_worths t
      (record {
        same_asks = refl;
        same_bays = refl;
        same_amounts = refl;
        same_tickets = refl;
        same_bids = λ k j lk lj n. refl;
      }) in
      rw (obtained_worths t' A, own, e', e, c', c)
      (choice_truth (length t.asks) (menu_of M i) (menu_below M i) (menu_near M i) worths _)

pub guest_truthful : GuestTruthful
unfolding guest_gain
guest_truthful rule t t' i a a' li A = (signed_iff_unsigned _ _ _ _).1 (gains_no_more rule t i a li t' A)

pub guest_truthful_under : GuestTruthfulUnder
guest_truthful_under rule = guest_truthful (position rule)

pub menu_of_lem :
    (rule : Rule) (t : Tables) (i : ℕ) → Accepted t → i < length t.amounts
    → MenuOf rule t i (menu_of (market rule t) i)
unfolding screened decision market menu_of
menu_of_lem rule t i a li = record {
  opens_offer = λ j lj. refl;
  priced_below = menu_below (market rule t) i;
  priced_near = menu_near (market rule t) i;
  assigns = λ t' a' A. (by_menu (position rule) t i a li t' A).0;
  charges = λ t' a' A. (by_menu (position rule) t i a li t' A).1;
}

pub guest_menu : GuestMenu
guest_menu rule t i a li = (menu_of (market rule t) i, menu_of_lem rule t i a li)

-- ---- stations

module _ (t t' : Tables) (j : ℕ) (A : AlikeButForStation t t' j) where
  reask_market : (rule : ℕ → ℕ) → reask (market_by rule t) (λ k. get_or t'.asks k 0) ≡ market_by rule t'
  unfolding market_by bid_at
  reask_market rule = λ x. record {
    guest_count = length (sym A.same_amounts x);
    station_count = sym A.same_count x;
    position = rule (sym A.same_count x);
    ask = λ k. get_or t'.asks k 0;
    bays = λ k. get_or (sym A.same_bays x) k 0;
    amount = λ i. get_or (sym A.same_amounts x) i 0;
    bid = λ i k. get_or (sym A.same_bids x) (i * sym A.same_count x + k) 0;
    key = λ i. get_or (sym A.same_tickets x) i 0;
  }

  -- beyond the tables' ends too
  asks_same : (k : ℕ) → (k ≡ j → ⊥) → get_or t'.asks k 0 ≡ get_or t.asks k 0
  asks_same k n = ⊎_elim
      (λ (l : k < length t.asks). A.same_asks k l n)
      (λ (l : length t.asks ≤ k). get_or-eq_default t'.asks 0
      (let l' : length t'.asks ≤ k = omega (arith, A.same_count) in l')
      ∙ sym (get_or-eq_default t.asks 0 l))
      (lt_or_le k (length t.asks))

module _ (mechanism : Screened → Decision) (C : (S : Screened) → Candidates S (mechanism S)) (rule : ℕ → ℕ) where
  -- in N station j gains no more, with its ask in t as its cost
  abbrev NoMore : Tables → ℕ → Market → Type 0
  NoMore t j N = let S = screen (market_by rule t) in let S' = screen N in
      paid S' (mechanism S') j + get_or t.asks j 0 * sold S (mechanism S) j
      ≤ paid S (mechanism S) j + get_or t.asks j 0 * sold S' (mechanism S') j

  reask_no_more :
      (t : Tables) (j : ℕ) (a : ℕ → ℕ) → ((k : ℕ) → (k ≡ j → ⊥) → a k ≡ get_or t.asks k 0)
      → NoMore t j (reask (market_by rule t) a)
  unfolding market_by
  reask_no_more t j a alike = station_truth mechanism C (market_by rule t) j a (λ k n. sym (alike k n))

  -- truth pays best for stations, under any mechanism that assigns only candidates
  pub station_truthful_by : StationTruthfulBy mechanism rule
  unfolding station_gain
  station_truthful_by t t' j a a' lj A = (signed_iff_unsigned _ _ _ _).1
      (subst (NoMore t j) (reask_market t t' j A rule)
      (reask_no_more t j (λ k. get_or t'.asks k 0) (asks_same t t' j A)))

pub station_truthful : StationTruthful
station_truthful = station_truthful_by truthful truthful_candidates

pub station_truthful_under : StationTruthfulUnder
station_truthful_under rule = station_truthful (position rule)

-- ---- the limits of every clearing

-- the charges are the payments and the margin
pub balanced_by :
    (rule : Rule) (t : Tables) (D : Decision) → Candidates (screened rule t) D
    → sum (length t.amounts) (charged (screened rule t) D)
    ≡ sum (length t.asks) (paid (screened rule t) D) + margin (screened rule t) D
unfolding screened market market_by screen
balanced_by rule t D C = balance (screened rule t) D C

-- a fair decision keeps within the limits
pub clears_within : (rule : Rule) (t : Tables) (D : Decision) → Fair (screened rule t) D → ClearsWithin rule t D
unfolding screened market market_by screen charged sold at
clears_within rule t D F = record {
  charge_within_bid = charged_within_bid (market rule t) D F;
  unassigned_free = λ i e. rw e;
  payment_covers_ask = payment_covers_ask (market rule t) D F.candidates;
  sold_as_assigned = λ j. refl;
  within_bays = F.fits;
  balanced = balanced_by rule t D F.candidates;
  covered = omega (arith, balanced_by rule t D F.candidates);
}

-- accepted or not
pub balanced :
    (rule : Rule) (t : Tables)
    → sum (length t.amounts) (charged (screened rule t) (decision rule t))
    ≡ sum (length t.asks) (paid (screened rule t) (decision rule t)) + margin (screened rule t) (decision rule t)
unfolding decision
balanced rule t = balanced_by rule t (decision rule t) (truthful_candidates (screened rule t))

pub clearing_limits : ClearingLimits
unfolding decision
clearing_limits rule t a =
    clears_within rule t (decision rule t) (truthful_fair (screened rule t) (accepted_keys rule t a))
