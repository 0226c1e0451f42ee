-- A guest's menu: prices and bars that its own bids cannot move. From any menu the true totals choose best.
use Prim.Native.Nat.{ℕ, zero, suc, ◌+◌, ◌*◌, ◌-◌, ◌≤◌, ◌<◌, max}
use mathlib.Core.Bool.{Bool, true, false, cond}
use mathlib.Core.Logic.{⊎_elim}
use mathlib.Core.Path.{◌≡◌, refl, sym, ap, ap₂, ◌∙◌}
use native.Mathlib.Nat.{le_refl, mul-le-mul_right}
use native.Mathlib.Omega.{arith}
use lib.ListN.{get_or}
use Rattle.model.specs.Counting.{◌≤?◌, ◌and◌, only}
use Rattle.model.specs.market.Market.{Market, cut, opens, Screened, screen, queue, provisional}
use Rattle.model.specs.market.Mechanism.{at, charge, charged, best, surplus, truthful}
use Rattle.model.specs.market.Menus.{Menu, choice, loses_tie, menu_of, no_bar, listed}
use Rattle.model.proofs.Tests.{both, first, second, same_test, only_yes, only_le, le_yes, is_le, not_le}
use Rattle.model.proofs.Tests.{lt_or_le}
use Rattle.model.proofs.Counting.{get_d_list, list_cong}
use Rattle.model.proofs.market.Choice.{best_holds, best_best, best_cong}
use Rattle.model.proofs.market.Pivots.{pivot, bar, critical_pivot, bar_provisional, provisional_bar, bar_is}
use Rattle.model.proofs.market.Pivots.{pivot_same, bar_same, tie_same}
use Rattle.model.proofs.market.Decisions.{candidate_open, candidate_bid}
use Rattle.model.proofs.market.Truthful.{Keys, assigned_to_best, candidate_held}

-- ---- a choice by the true totals w is worth no less than one by any others, r

module _ (m : ℕ) (U : Menu) (below : (j : ℕ) → U.price j ≤ U.bar j)
    (near : (j : ℕ) → U.bar j ≤ U.price j + 1) (w r : ℕ → ℕ) where
  price_covered : at U.price (choice m U w) ≤ at w (choice m U w)
  unfolding at choice
  price_covered = go (choice m U w) refl
    where
      go : (x : ℕ) → choice m U w ≡ x → at U.price x ≤ at w x
      go zero e = omega arith
      go (suc j) e = let h = (best_holds _ _ _ j e).1 in omega (arith, below j, le_yes _ _ (second _ _ h))

  pub choice_truth :
      at w (choice m U r) + at U.price (choice m U w) ≤ at w (choice m U w) + at U.price (choice m U r)
  unfolding at choice
  choice_truth = go (choice m U r) refl
    where
      go : (x : ℕ) → choice m U r ≡ x → at w x + at U.price (choice m U w) ≤ at w (choice m U w) + at U.price x
      go zero e = omega (arith, price_covered)
      go (suc j) e =
          let (lj, h) = best_holds _ _ _ j e in
          ⊎_elim
          (λ (l : U.price j < w j).
          let (k, q, s) = best_best m (λ j. U.offered j and U.bar j ≤? w j) (λ j. w j - U.price j) j lj
          (both (first _ _ h) (is_le _ _ (omega (arith, near j)))) in
          let c = price_covered in
          rw q (omega (arith, s, rw q at c)))
          (λ l. omega (arith, price_covered))
          (lt_or_le (U.price j) (w j))

-- ---- the menu of guest i in a market

pub menu_below : (M : Market) (i j : ℕ) → (menu_of M i).price j ≤ (menu_of M i).bar j
unfolding menu_of
menu_below M i j = omega arith

pub menu_near : (M : Market) (i j : ℕ) → (menu_of M i).bar j ≤ (menu_of M i).price j + 1
unfolding menu_of
menu_near M i j = omega (arith, only_le (loses_tie (queue (screen M) j) i) 1 1 (λ _. le_refl 1))

-- the market with other bids
abbrev pub rebid : Market → (ℕ → ℕ → ℕ) → Market
rebid M b = record {
  guest_count = M.guest_count;
  station_count = M.station_count;
  position = M.position;
  ask = M.ask;
  bays = M.bays;
  amount = M.amount;
  bid = b;
  key = M.key;
}

-- at one station, where the others bid the same there: they are candidates with the same totals, so that i's bar and
-- pivot stay
module _ (M : Market) (i : ℕ) (b : ℕ → ℕ → ℕ) (j : ℕ)
    (alike : (k : ℕ) → k < M.guest_count → (k ≡ i → ⊥) → b k j ≡ M.bid k j) where
  pub candidates_same :
      (k : ℕ) → k < M.guest_count → (k ≡ i → ⊥) → (screen M).candidate k j ≡ (screen (rebid M b)).candidate k j
  unfolding screen cut opens
  candidates_same k lk n = ap (λ x. opens M j and cut M ≤? x) (sym (alike k lk n))

  pub totals_same : (k : ℕ) → k < M.guest_count → (k ≡ i → ⊥) → (screen M).total k j ≡ (screen (rebid M b)).total k j
  unfolding screen
  totals_same k lk n = ap (λ x. x * M.amount k) (sym (alike k lk n))

  bars_same : bar (queue (screen M) j) i ≡ bar (queue (screen (rebid M b)) j) i
  unfolding queue screen
  bars_same = bar_same (queue (screen M) j) _ _ i candidates_same totals_same

  pivots_same : pivot (queue (screen M) j) i ≡ pivot (queue (screen (rebid M b)) j) i
  unfolding queue screen
  pivots_same = pivot_same (queue (screen M) j) _ _ i candidates_same totals_same

  ties_same : loses_tie (queue (screen M) j) i ≡ loses_tie (queue (screen (rebid M b)) j) i
  unfolding queue screen
  ties_same = tie_same (queue (screen M) j) _ _ i candidates_same totals_same

  -- so do i's price and bar on its menu
  price_stays : (menu_of (rebid M b) i).price j ≡ (menu_of M i).price j
  unfolding menu_of cut
  price_stays = ap (max (cut M * M.amount i)) (sym pivots_same)

  bar_stays : (menu_of (rebid M b) i).bar j ≡ (menu_of M i).bar j
  unfolding menu_of cut
  bar_stays =
      ap₂ (λ x y. max (cut M * M.amount i) (x + only y 1)) (sym pivots_same) (sym ties_same)

-- the menu says whether i wins there, and its charge
module _ (M : Market) (K : Keys M.key M.guest_count) (i : ℕ) (li : i < M.guest_count) (some : 1 ≤ M.amount i)
    (b : ℕ → ℕ → ℕ) (j : ℕ) (bays : 1 ≤ M.bays j)
    (alike : (k : ℕ) → k < M.guest_count → (k ≡ i → ⊥) → b k j ≡ M.bid k j) where
  pub menu_provisional :
      provisional (queue (screen (rebid M b)) j) i
      ≡ ((menu_of M i).offered j and (menu_of M i).bar j ≤? b i j * M.amount i)
  unfolding menu_of queue screen cut opens
  menu_provisional = same_test _ _
      (λ h. let c = candidate_held (screen (rebid M b)) i j h in
      both (candidate_open (rebid M b) i j c)
      (is_le _ _ (omega (
        arith,
        mul-le-mul_right (M.amount i) (candidate_bid (rebid M b) i j c),
        bars_same M i b j alike,
        bar_is (queue (screen M) j) K i,
        provisional_bar (queue (screen (rebid M b)) j) K i li h,
      ))))
      (λ e.
      let l : (menu_of M i).bar j ≤ b i j * M.amount i = le_yes _ _ (second _ _ e) in
      bar_provisional (queue (screen (rebid M b)) j) K i li
      (both (first _ _ e) (is_le _ _ (⊎_elim
      (λ (q : b i j < cut M). absurd (omega (arith, mul-le-mul_right (M.amount i) q)))
      (λ (q : cut M ≤ b i j). q)
      (lt_or_le (b i j) (cut M)))))
      bays (omega (arith, bars_same M i b j alike, bar_is (queue (screen M) j) K i)))

  pub menu_charge :
      provisional (queue (screen (rebid M b)) j) i ≡ true
      → charge (screen (rebid M b)) (truthful (screen (rebid M b))) i j ≡ (menu_of M i).price j
  unfolding menu_of charge truthful queue screen cut
  menu_charge h =
      ap (max (cut M * M.amount i))
      (critical_pivot (queue (screen (rebid M b)) j) K i li h ∙ sym (pivots_same M i b j alike))

module _ (M : Market) (K : Keys M.key M.guest_count) (i : ℕ) (li : i < M.guest_count) (some : 1 ≤ M.amount i)
    (bays : (j : ℕ) → j < M.station_count → 1 ≤ M.bays j)
    (b : ℕ → ℕ → ℕ)
    (alike : (k j : ℕ) → k < M.guest_count → j < M.station_count → (k ≡ i → ⊥) → b k j ≡ M.bid k j) where
  abbrev S' : Screened
  S' = screen (rebid M b)

  pub menu_assigned : (truthful S').assigned i ≡ choice M.station_count (menu_of M i) (S'.total i)
  unfolding choice truthful surplus charge screen
  menu_assigned = best_cong M.station_count _ _ _ _
      (λ j lj. menu_provisional M K i li some b j (bays j lj) (λ k lk n. alike k j lk lj n))
      (λ j lj h. ap (λ x. b i j * M.amount i - x) (menu_charge M K i li some b j (bays j lj)
      (λ k lk n. alike k j lk lj n)
      (menu_provisional M K i li some b j (bays j lj) (λ k lk n. alike k j lk lj n) ∙ h)))

  pub menu_charged :
      charged S' (truthful S') i ≡ at (menu_of M i).price (choice M.station_count (menu_of M i) (S'.total i))
  unfolding charged at screen
  menu_charged = go ((truthful S').assigned i) refl ∙ ap (at (menu_of M i).price) menu_assigned
    where
      go : (r : ℕ) → (truthful S').assigned i ≡ r → at (charge S' (truthful S') i) r ≡ at (menu_of M i).price r
      go zero e = refl
      go (suc j) e =
          let (lj, h) = (assigned_to_best S' i).somewhere j e in
          menu_charge M K i li some b j (bays j lj) (λ k lk n. alike k j lk lj n) h

-- ---- a menu as a list

pub bar_test : (o : Bool) (bar total : ℕ) → total < no_bar → (cond o bar no_bar ≤? total) ≡ (o and bar ≤? total)
unfolding ◌and◌
bar_test true bar total l = refl
bar_test false bar total l = not_le _ _ l

module _ (m : ℕ) (U : Menu) (j : ℕ) (lj : j < m) where
  pub listed_bar : get_or (listed m U).bars j 0 ≡ cond (U.offered j) (U.bar j) no_bar
  unfolding listed
  listed_bar = get_d_list m _ j lj

  pub listed_test :
      (total : ℕ) → total < no_bar → (get_or (listed m U).bars j 0 ≤? total) ≡ (U.offered j and U.bar j ≤? total)
  listed_test total l = rw listed_bar (bar_test (U.offered j) (U.bar j) total l)

  pub listed_at : get_or (listed m U).prices j 0 ≡ only (U.offered j) (U.price j)
  unfolding listed
  listed_at = get_d_list m _ j lj

  pub listed_price : U.offered j ≡ true → get_or (listed m U).prices j 0 ≡ U.price j
  listed_price o = listed_at ∙ only_yes _ _ o

-- whoever goes by the list chooses and pays as by the menu
module _ (m : ℕ) (U : Menu) (total : ℕ → ℕ) (low : (j : ℕ) → j < m → total j < no_bar) where
  pub listed_choice :
      best m (λ j. get_or (listed m U).bars j 0 ≤? total j) (λ j. total j - get_or (listed m U).prices j 0)
      ≡ choice m U total
  unfolding choice
  listed_choice =
      best_cong m _ _ _ _ (λ j lj. listed_test m U j lj (total j) (low j lj))
      (λ j lj h. ap (λ x. total j - x) (listed_price m U j lj (first _ _ h)))

  pub listed_charge : at (λ j. get_or (listed m U).prices j 0) (choice m U total) ≡ at U.price (choice m U total)
  unfolding choice at
  listed_charge = go (choice m U total) refl
    where
      go : (r : ℕ) → choice m U total ≡ r → at (λ j. get_or (listed m U).prices j 0) r ≡ at U.price r
      go zero e = refl
      go (suc j) e = let (lj, h) = best_holds _ _ _ j e in listed_price m U j lj (first _ _ h)

pub choice_cong :
    (m : ℕ) (U : Menu) (v w : ℕ → ℕ) → ((j : ℕ) → j < m → v j ≡ w j) → choice m U v ≡ choice m U w
unfolding choice
choice_cong m U v w same =
    best_cong m _ _ _ _ (λ j lj. ap (λ x. U.offered j and U.bar j ≤? x) (same j lj))
    (λ j lj h. ap (λ x. x - U.price j) (same j lj))

-- the list does not move with i's bids
pub listed_stays :
    (M : Market) (i : ℕ) (b : ℕ → ℕ → ℕ)
    → ((k j : ℕ) → k < M.guest_count → j < M.station_count → (k ≡ i → ⊥) → b k j ≡ M.bid k j)
    → listed M.station_count (menu_of (rebid M b) i) ≡ listed M.station_count (menu_of M i)
unfolding listed menu_of opens cut
listed_stays M i b alike =
    let bars = list_cong M.station_count _ _ (λ j lj.
    ap (λ x. cond (opens M j) x no_bar) (bar_stays M i b j (λ k lk n. alike k j lk lj n))) in
    let prices = list_cong M.station_count _ _ (λ j lj.
    ap (only (opens M j)) (price_stays M i b j (λ k lk n. alike k j lk lj n))) in
    λ x. record { bars = bars x; prices = prices x }
