-- What an accepted call that joins two markets comes to, and laws of one list after another.
use Prim.Native.Nat.{ℕ, ◌+◌, ◌-◌, ◌≤◌, ◌<◌}
use mathlib.Core.Bool.{true, false}
use mathlib.Core.List.{List, ◌++◌}
use mathlib.Core.Logic.{⊎_elim}
use mathlib.Core.Path.{◌≡◌, refl, sym, ap, subst, ◌∙◌}
use native.Mathlib.Omega.{arith}
use lib.ListN.{get_or, length, length-append, get_or-append}
use lib.Seq.{get_or-append-add, ext_get_or}
use Rattle.model.specs.Verdicts.{accepted, first_fault}
use Rattle.model.specs.market.Market.{Tables}
use Rattle.model.specs.market.Faults.{repeats, market_faults, verdict}
use Rattle.model.specs.market.Gates.{differs, meet, joined_lengths, pair_faults, joining_faults}
use Rattle.model.specs.sheet.Lent.{LentTables}
use Rattle.model.specs.claims.Meaning.{Differ}
use Rattle.model.specs.claims.Gates.{JoiningWithinLimits, JoiningAcceptedIffWithinLimits}
use Rattle.model.proofs.Tests.{decide, clash, or_no, neither, lt_no, not_lt, eq_no, not_eq, lt_or_le}
use Rattle.model.proofs.Counting.{some_no, none_some, any_no, none_any}
use Rattle.model.proofs.Verdicts.{fault_none, no_fault, no_faults, fault_second, fault_free}
use Rattle.model.proofs.market.Acceptance.{equal, not_unequal, repeats_no, no_repeats}

module _ (xs ys : List ℕ) where
  -- ---- one after the other

  pub in_first : (k : ℕ) → k < length xs → get_or (xs ++ ys) k 0 ≡ get_or xs k 0
  in_first k l = get_or-append xs ys 0 k l

  in_second : (k : ℕ) → length xs ≤ k → get_or (xs ++ ys) k 0 ≡ get_or ys (k - length xs) 0
  in_second k l =
      ap (λ q. get_or (xs ++ ys) q 0) (let e : k ≡ length xs + (k - length xs) = omega arith in e)
      ∙ get_or-append-add xs ys (k - length xs) 0

  pub each_of_both :
      (P : ℕ → Type 0) → ((k : ℕ) → k < length xs → P (get_or xs k 0)) → ((k : ℕ) → k < length ys → P (get_or ys k 0))
      → (k : ℕ) → k < length (xs ++ ys) → P (get_or (xs ++ ys) k 0)
  each_of_both P p q k l = ⊎_elim
      (λ (m : k < length xs). subst P (sym (in_first k m)) (p k m))
      (λ (m : length xs ≤ k). subst P (sym (in_second k m)) (q (k - length xs) (omega (arith, length-append xs ys))))
      (lt_or_le k (length xs))

  pub differ_both :
      Differ xs → Differ ys
      → ((i k : ℕ) → i < length xs → k < length ys → get_or xs i 0 ≡ get_or ys k 0 → ⊥) → Differ (xs ++ ys)
  differ_both d e apart i k l lk same = ⊎_elim
      (λ (mk : k < length xs).
      let mi : i < length xs = omega arith in d i k l mk (sym (in_first i mi) ∙ same ∙ in_first k mk))
      (λ (mk : length xs ≤ k).
      let low : k - length xs < length ys = omega (arith, length-append xs ys) in
      ⊎_elim
      (λ (mi : i < length xs). apart i (k - length xs) mi low (sym (in_first i mi) ∙ same ∙ in_second k mk))
      (λ (mi : length xs ≤ i).
      e (i - length xs) (k - length xs) (omega arith) low (sym (in_second i mi) ∙ same ∙ in_second k mk))
      (lt_or_le i (length xs)))
      (lt_or_le k (length xs))

  -- ---- the same list, and no number in both

  same_list : differs xs ys ≡ false → ys ≡ xs
  unfolding differs
  same_list e =
      let (long, each) = or_no _ _ e in
      let l : length xs ≡ length ys = equal _ _ long in
      ext_get_or 0 ys xs (sym l) (λ k lk. sym (equal _ _ (some_no (length xs) _ each k (omega arith))))

  no_difference : ys ≡ xs → differs xs ys ≡ false
  unfolding differs
  no_difference e =
      rw e (neither (not_unequal _ _ refl) (none_some (length xs) _ (λ k lk. not_unequal _ _ refl)))

  meet_no : meet xs ys ≡ false → (i k : ℕ) → i < length xs → k < length ys → get_or xs i 0 ≡ get_or ys k 0 → ⊥
  unfolding meet
  meet_no e i k li lk = eq_no _ _ (any_no ys _ (any_no xs _ e i li) k lk)

  no_meet : ((i k : ℕ) → i < length xs → k < length ys → get_or xs i 0 ≡ get_or ys k 0 → ⊥) → meet xs ys ≡ false
  unfolding meet
  no_meet apart = none_any xs _ (λ i li. none_any ys _ (λ k lk. not_eq _ _ (apart i k li lk)))

  -- where neither repeats a number, both together do exactly where one stands in both
  pub repeats_both : Differ xs → Differ ys → repeats (xs ++ ys) ≡ meet xs ys
  repeats_both d e = ⊎_elim
      (λ (m : meet xs ys ≡ true). ⊎_elim
      (λ (r : repeats (xs ++ ys) ≡ true). r ∙ sym m)
      (λ (r : repeats (xs ++ ys) ≡ false). absurd (clash m (no_meet (λ i k li lk same.
      repeats_no (xs ++ ys) r i (length xs + k) (omega arith) (omega (arith, length-append xs ys))
      (in_first i li ∙ same ∙ sym (get_or-append-add xs ys k 0))))))
      (decide (repeats (xs ++ ys))))
      (λ (m : meet xs ys ≡ false). no_repeats (xs ++ ys) (differ_both d e (meet_no m)) ∙ sym m)
      (decide (meet xs ys))

module _ (t u : Tables) (l : LentTables) where
  pub joining_within : first_fault (joining_faults t u l) ≡ accepted tt → JoiningWithinLimits t u l
  unfolding joining_faults pair_faults joined_lengths verdict
  joining_within e =
      let (own, e1) = no_faults (market_faults t ++ market_faults u) _ e in
      let (first, second) = no_faults (market_faults t) _ own in
      let (stations, e2) = no_fault _ _ _ e1 in
      let (guests, e3) = no_fault _ _ _ e2 in
      let (tickets, e4) = no_fault _ _ _ e3 in
      let (lent, e5) = no_fault _ _ _ e4 in
      let (asks, bays) = or_no _ _ stations in
      let (l0123, bid_list) = or_no _ _ lent in
      let (l012, bay_list) = or_no _ _ l0123 in
      let (l01, ask_list) = or_no _ _ l012 in
      let (amount_list, ticket_list) = or_no _ _ l01 in
      record {
        first_accepted = first;
        second_accepted = second;
        joinable = record {
          same_asks = same_list t.asks u.asks asks;
          same_bays = same_list t.bays u.bays bays;
          guests_most = lt_no _ _ guests;
          tickets_apart = meet_no t.tickets u.tickets tickets;
        };
        amounts_long = equal _ _ amount_list;
        tickets_long = equal _ _ ticket_list;
        asks_long = equal _ _ ask_list;
        bays_long = equal _ _ bay_list;
        bids_long = equal _ _ bid_list;
      }

  pub joining_accept : JoiningWithinLimits t u l → first_fault (joining_faults t u l) ≡ accepted tt
  unfolding joining_faults pair_faults joined_lengths verdict
  joining_accept w =
      let G = w.joinable in
      fault_second (market_faults t ++ market_faults u) _
      (fault_second (market_faults t) _ w.first_accepted ∙ w.second_accepted)
      ∙ fault_free _ _ (neither
      (no_difference t.asks u.asks G.same_asks) (no_difference t.bays u.bays G.same_bays))
      (fault_free _ _ (not_lt _ _ G.guests_most)
      (fault_free _ _ (no_meet t.tickets u.tickets G.tickets_apart)
      (fault_free _ _ (neither (neither (neither
      (neither (not_unequal _ _ w.amounts_long) (not_unequal _ _ w.tickets_long))
      (not_unequal _ _ w.asks_long)) (not_unequal _ _ w.bays_long)) (not_unequal _ _ w.bids_long))
      fault_none)))

pub joining_accepted_iff_within_limits : JoiningAcceptedIffWithinLimits
joining_accepted_iff_within_limits t u l = (joining_within t u l, joining_accept t u l)
