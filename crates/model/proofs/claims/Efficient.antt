-- Request 4: the readings of the efficient mechanism, and what holds of it.
use Prim.Native.Nat.{ℕ, zero, suc, ◌≤◌, ◌<◌}
use mathlib.Core.Bool.{Bool, true, false, not}
use mathlib.Core.List.{List, [], ◌∷◌}
use mathlib.Core.Logic.{◌⊎◌, inl, inr, ⊎_elim}
use mathlib.Core.Path.{◌≡◌, refl, sym, ap, ◌∙◌}
use native.Mathlib.Nat.{not-suc-le-zero, le_of_suc-le-suc, le_antisymm}
use native.Mathlib.Omega.{arith}
use lib.ListN.{get_or, length, take}
use Rattle.model.specs.Counting.{◌=?◌, ◌and◌}
use Rattle.model.specs.market.Market.{market_by, market, Screened, screen}
use Rattle.model.specs.market.Mechanism.{Decision}
use Rattle.model.specs.market.Stable.{sooner}
use Rattle.model.specs.market.Efficient.{Candidacy, candidacy, candidacies, bay_left, assign, first_of, turn_away}
use Rattle.model.specs.market.Efficient.{take_one, take_all, nobody, efficient}
use Rattle.model.specs.market.Outcome.{screened, decision, efficient_decision, efficient_outcome}
use Rattle.model.specs.claims.Efficient.{nth, InOrder, CandidaciesInOrder, finds_bay, finds_full, First, None}
use Rattle.model.specs.claims.Efficient.{AssignedAtFirstBay, UnassignedWithoutBay, CriticalIsTotalOfFirstFull}
use Rattle.model.specs.claims.Efficient.{EfficientIsStable, StableDetermines, EfficientAssignsNoFewer}
use Rattle.model.specs.claims.Efficient.{StableOutcome, EfficientStationTruthful, EfficientLimits}
use Rattle.model.specs.claims.Efficient.{EfficientStationTruthfulUnder}
use Rattle.model.specs.market.Rules.{position}
use Rattle.model.proofs.Tests.{clash, both, and_no, and_false, not_not, is_lt, not_lt, eq_or_ne}
use Rattle.model.proofs.Tests.{is_eq, not_eq, lt_or_le}
use Rattle.model.proofs.market.Truthful.{Keys, accepted_keys}
use Rattle.model.proofs.market.Order.{sooner_total, sooner_key, sooner_station, sooner_self}
use Rattle.model.proofs.market.Candidacies.{In, Sorted, candidacies_only, candidacies_all, candidacies_sorted}
use Rattle.model.proofs.market.Taking.{put_same, put_other, put_cases, take_cases, stable_is_efficient}
use Rattle.model.proofs.market.Efficient.{efficient_candidates, efficient_stable, efficient_critical}
use Rattle.model.proofs.market.Efficient.{outcome_of_stable, efficient_fair, assigns_no_fewer}
use Rattle.model.proofs.claims.Truth.{station_truthful_by, clears_within}

-- ---- the list by places

abbrev at : List Candidacy → ℕ → Candidacy
at l p = get_or l p (candidacy 0 0)

in_at : (l : List Candidacy) (p : ℕ) → p < length l → In (at l p).guest (at l p).station l
in_at [] p h = absurd (not-suc-le-zero h)
in_at (x ∷ l) zero h = inl (refl, refl)
in_at (x ∷ l) (suc p) h = inr (in_at l p (le_of_suc-le-suc h))

at_in : (i j : ℕ) (l : List Candidacy) → In i j l → (p : ℕ) × (p < length l) × (at l p ≡ candidacy i j)
at_in i j [] h = absurd h
at_in i j (x ∷ l) (inl e) = (0, omega arith, λ y. record { guest = sym e.0 y; station = sym e.1 y })
at_in i j (x ∷ l) (inr h) = let (p, lp, e) = at_in i j l h in (suc p, omega arith, e)

sorted_at : (S : Screened) (l : List Candidacy) → Sorted S l → (p q : ℕ) → p < q → q < length l
    → sooner S (at l p).guest (at l p).station (at l q).guest (at l q).station ≡ true
sorted_at S [] O p q h lq = absurd (not-suc-le-zero lq)
sorted_at S (x ∷ l) O p zero h lq = absurd (not-suc-le-zero h)
sorted_at S (x ∷ l) O zero (suc q) h lq = O.0 _ _ (in_at l q (le_of_suc-le-suc lq))
sorted_at S (x ∷ l) O (suc p) (suc q) h lq = sorted_at S l O.1 p q (le_of_suc-le-suc h) (le_of_suc-le-suc lq)

module _ (S : Screened) (K : Keys S.key S.guest_count) where
  ordered :
      (p q : ℕ) → p < q → q < length (candidacies S)
      → sooner S (nth S p).guest (nth S p).station (nth S q).guest (nth S q).station ≡ true
  ordered = sorted_at S (candidacies S) (candidacies_sorted S K)

  apart : (p q : ℕ) → p < q → q < length (candidacies S) → nth S p ≡ nth S q → ⊥
  apart p q h lq e = sooner_self S (nth S q).guest (nth S q).station (rw e at (ordered p q h lq))

  in_order : InOrder S
  in_order = record {
    totals_fall = λ p q h lq. sooner_total S _ (nth S p).station _ (nth S q).station (ordered p q h lq);
    tickets_rise = λ p q h lq. sooner_key S _ (nth S p).station _ (nth S q).station (ordered p q h lq);
    stations_rise = λ p q h lq. sooner_station S (nth S p).guest _ (nth S q).guest _ (ordered p q h lq);
    once = λ p q lp lq e. ⊎_elim
        (λ (h : p < q). absurd (apart p q h lq e))
        (λ (h : q ≤ p). ⊎_elim
        (λ (g : q < p). absurd (apart q p g lp (sym e)))
        (λ (g : p ≤ q). le_antisymm g h)
        (lt_or_le q p))
        (lt_or_le p q);
    all = λ i j li lj c. at_in i j (candidacies S) (candidacies_all S i j li lj c);
    no_other = λ p lp. candidacies_only S _ _ (in_at (candidacies S) p lp);
  }

pub candidacies_in_order : CandidaciesInOrder
candidacies_in_order rule t a = in_order (screened rule t) (accepted_keys rule t a)

-- ---- the first place, one further on

module _ (n : ℕ) (kind : ℕ → Type 0) (test : ℕ → Bool) where
  first_here : kind 0 → test 0 ≡ true → First (suc n) kind test 0
  first_here k e = record {
    below = omega arith;
    of_kind = k;
    passes = e;
    none_before = λ q lq. absurd (not-suc-le-zero lq);
  }

  first_later :
      (p : ℕ) → (kind 0 → test 0 ≡ false) → First n (λ q. kind (suc q)) (λ q. test (suc q)) p
      → First (suc n) kind test (suc p)
  first_later p z F = record {
    below = let l : p < n = F.below in omega arith;
    of_kind = F.of_kind;
    passes = F.passes;
    none_before = none_before;
  }
    where
      none_before : (q : ℕ) → q < suc p → kind q → test q ≡ false
      none_before zero lq = z
      none_before (suc q) lq = F.none_before q (le_of_suc-le-suc lq)

  first_back : (p : ℕ) → First (suc n) kind test (suc p) → First n (λ q. kind (suc q)) (λ q. test (suc q)) p
  first_back p F = record {
    below = le_of_suc-le-suc F.below;
    of_kind = F.of_kind;
    passes = F.passes;
    none_before = λ q lq. F.none_before (suc q) (omega arith);
  }

-- ---- the first bay

module _ (S : Screened) where
  -- what one candidacy does for a guest that isn't assigned yet
  abbrev Next : Decision → Candidacy → (i : ℕ) → Decision → Type 0
  Next D x i E =
      ((x.guest ≡ i) × (bay_left S D x.station ≡ true) × (E.assigned i ≡ suc x.station))
      ⊎ ((x.guest ≡ i → bay_left S D x.station ≡ false) × (E.assigned i ≡ 0))

  next : (D : Decision) (x : Candidacy) (i : ℕ) → D.assigned i ≡ 0 → Next D x i (take_one S D x)
  unfolding assign turn_away bay_left
  next D x i z = take_cases S D x (Next D x i)
      (λ n. inr ((λ e. absurd (n (rw (← e) at z))), z))
      (λ _ b. ⊎_elim
      (λ (e : i ≡ x.guest). inl (sym e, is_lt _ _ b, put_same _ _ _ i e))
      (λ (n : i ≡ x.guest → ⊥). inr ((λ e. absurd (n (sym e))), put_other _ _ _ i n ∙ z))
      (eq_or_ne i x.guest))
      (λ _ b. inr ((λ _. not_lt _ _ b), z))

  stays_one : (D : Decision) (x : Candidacy) (i j : ℕ) → D.assigned i ≡ suc j → (take_one S D x).assigned i ≡ suc j
  unfolding assign turn_away
  stays_one D x i j e = take_cases S D x (λ E. E.assigned i ≡ suc j)
      (λ _. e)
      (λ z _. put_cases D.assigned x.guest (suc x.station) i (λ v. v ≡ suc j)
      (λ q. absurd (let u : 0 ≡ suc j = sym z ∙ ap D.assigned (sym q) ∙ e in omega arith))
      (λ _. e))
      (λ _ _. e)

  stays : (D : Decision) (l : List Candidacy) (i j : ℕ) → D.assigned i ≡ suc j → (take_all S D l).assigned i ≡ suc j
  unfolding take_all
  stays D [] i j e = e
  stays D (x ∷ l) i j e = stays (take_one S D x) l i j (stays_one D x i j e)

  -- from any decision on, with any list still to be taken
  bay_at : Decision → List Candidacy → ℕ → Bool
  bay_at D l p = bay_left S (take_all S D (take p l)) (at l p).station

  abbrev FirstBay : Decision → List Candidacy → (i p : ℕ) → Type 0
  FirstBay D l i p = First (length l) (λ q. (at l q).guest ≡ i) (bay_at D l) p

  assigned_there : (D : Decision) (l : List Candidacy) (i p : ℕ) → D.assigned i ≡ 0 → FirstBay D l i p
      → (take_all S D l).assigned i ≡ suc (at l p).station
  unfolding take_all bay_at
  assigned_there D [] i p z F = absurd (not-suc-le-zero F.below)
  assigned_there D (x ∷ l) i zero z F = ⊎_elim
      (λ h. stays (take_one S D x) l i x.station h.2)
      (λ h. absurd (clash F.passes (h.0 F.of_kind)))
      (next D x i z)
  assigned_there D (x ∷ l) i (suc p) z F = ⊎_elim
      (λ h. absurd (clash h.1 (F.none_before 0 (omega arith) h.0)))
      (λ h. assigned_there (take_one S D x) l i p h.1 (first_back (length l) _ (bay_at D (x ∷ l)) p F))
      (next D x i z)

  first_bay : (D : Decision) (l : List Candidacy) (i j : ℕ) → D.assigned i ≡ 0 → (take_all S D l).assigned i ≡ suc j
      → (p : ℕ) × FirstBay D l i p × ((at l p).station ≡ j)
  unfolding take_all bay_at
  first_bay D [] i j z e = absurd (let u : 0 ≡ suc j = sym z ∙ e in omega arith)
  first_bay D (x ∷ l) i j z e = ⊎_elim
      (λ h. let u : suc x.station ≡ suc j = sym (stays (take_one S D x) l i x.station h.2) ∙ e in
      (0, first_here (length l) _ (bay_at D (x ∷ l)) h.0 h.1, omega arith))
      (λ h. let (p, F, s) = first_bay (take_one S D x) l i j h.1 e in
      (suc p, first_later (length l) _ (bay_at D (x ∷ l)) p h.0 F, s))
      (next D x i z)

  -- who is assigned nowhere found no bay
  no_bay : (D : Decision) (l : List Candidacy) (i : ℕ) → D.assigned i ≡ 0 → (take_all S D l).assigned i ≡ 0
      → None (length l) (λ q. (at l q).guest ≡ i) (bay_at D l)
  unfolding take_all bay_at
  no_bay D [] i z e p lp = absurd (not-suc-le-zero lp)
  no_bay D (x ∷ l) i z e p lp = ⊎_elim
      (λ h. absurd (let u : 0 ≡ suc x.station = sym e ∙ stays (take_one S D x) l i x.station h.2 in
      omega arith))
      (λ h. go h.0 (no_bay (take_one S D x) l i h.1 e) p lp)
      (next D x i z)
    where
      go : (x.guest ≡ i → bay_left S D x.station ≡ false)
          → None (length l) (λ q. (at l q).guest ≡ i) (bay_at (take_one S D x) l)
          → None (length (x ∷ l)) (λ q. (at (x ∷ l) q).guest ≡ i) (bay_at D (x ∷ l))
      go h f zero lp = h
      go h f (suc p) lp = f p (le_of_suc-le-suc lp)

  -- ---- the first that finds a station full

  abbrev turns_away : Decision → Candidacy → Bool
  turns_away D x = D.assigned x.guest =? 0 and not (bay_left S D x.station)

  full_at : Decision → List Candidacy → ℕ → Bool
  full_at D l p = turns_away (take_all S D (take p l)) (at l p)

  -- what one candidacy does to a station's critical total
  abbrev NextCritical : Decision → Candidacy → (j : ℕ) → Decision → Type 0
  NextCritical D x j E =
      ((x.station ≡ j) × (turns_away D x ≡ true)
      × (E.critical j ≡ first_of (D.critical j) (S.total x.guest x.station)))
      ⊎ ((x.station ≡ j → turns_away D x ≡ false) × (E.critical j ≡ D.critical j))

  next_critical : (D : Decision) (x : Candidacy) (j : ℕ) → NextCritical D x j (take_one S D x)
  unfolding assign turn_away bay_left
  next_critical D x j = take_cases S D x (NextCritical D x j)
      (λ n. inr ((λ _. and_no _ _ (not_eq _ _ n)), refl))
      (λ z b. inr ((λ _. rw (is_lt _ _ b) (and_false (D.assigned x.guest =? 0))), refl))
      (λ z b. ⊎_elim
      (λ (e : j ≡ x.station). inl (sym e, both (is_eq _ _ z) (not_not (not_lt _ _ b)), put_same _ _ _ j e ∙ rw e))
      (λ (n : j ≡ x.station → ⊥). inr ((λ e. absurd (n (sym e))), put_other _ _ _ j n))
      (eq_or_ne j x.station))

  -- a critical total that is set is kept, since totals fall
  keeps : (D : Decision) (l : List Candidacy) (j : ℕ) → ((k r : ℕ) → In k r l → S.total k r ≤ D.critical j)
      → (take_all S D l).critical j ≡ D.critical j
  unfolding take_all first_of
  keeps D [] j h = refl
  keeps D (x ∷ l) j h =
      let same : (take_one S D x).critical j ≡ D.critical j = ⊎_elim
      (λ n. n.2 ∙ kept (D.critical j) _ (h x.guest x.station (inl (refl, refl))))
      (λ n. n.1)
      (next_critical D x j) in
      keeps (take_one S D x) l j (λ k r g. rw same (h k r (inr g))) ∙ same
    where
      kept : (c v : ℕ) → v ≤ c → first_of c v ≡ c
      kept zero v l = omega arith
      kept (suc c) v l = refl

  set_at_first : (D : Decision) (l : List Candidacy) (j p : ℕ) → Sorted S l → D.critical j ≡ 0
      → First (length l) (λ q. (at l q).station ≡ j) (full_at D l) p
      → (take_all S D l).critical j ≡ S.total (at l p).guest (at l p).station
  unfolding take_all full_at first_of
  set_at_first D [] j p O z F = absurd (not-suc-le-zero F.below)
  set_at_first D (x ∷ l) j zero O z F = ⊎_elim
      (λ n. let new : (take_one S D x).critical j ≡ S.total x.guest x.station =
      n.2 ∙ ap (λ c. first_of c (S.total x.guest x.station)) z in
      keeps (take_one S D x) l j (λ k r g. rw new (sooner_total S x.guest x.station k r (O.0 k r g))) ∙ new)
      (λ n. absurd (clash F.passes (n.0 F.of_kind)))
      (next_critical D x j)
  set_at_first D (x ∷ l) j (suc p) O z F = ⊎_elim
      (λ n. absurd (clash n.1 (F.none_before 0 (omega arith) n.0)))
      (λ n. set_at_first (take_one S D x) l j p O.1 (n.1 ∙ z)
      (first_back (length l) _ (full_at D (x ∷ l)) p F))
      (next_critical D x j)

  never_set : (D : Decision) (l : List Candidacy) (j : ℕ) → D.critical j ≡ 0
      → None (length l) (λ q. (at l q).station ≡ j) (full_at D l) → (take_all S D l).critical j ≡ 0
  unfolding take_all full_at
  never_set D [] j z f = z
  never_set D (x ∷ l) j z f = ⊎_elim
      (λ n. absurd (clash n.1 (f 0 (omega arith) n.0)))
      (λ n. never_set (take_one S D x) l j (n.1 ∙ z) (λ p lp. f (suc p) (omega arith)))
      (next_critical D x j)

pub assigned_at_first_bay : AssignedAtFirstBay
unfolding efficient_decision efficient finds_bay bay_at nobody
assigned_at_first_bay rule t i j = let S = screened rule t in (
  (λ e. first_bay S nobody (candidacies S) i j refl e),
  (λ (p, F, s). assigned_there S nobody (candidacies S) i p refl F ∙ ap suc s),
)

pub unassigned_without_bay : UnassignedWithoutBay
unfolding efficient_decision efficient finds_bay bay_at nobody
unassigned_without_bay rule t i = (
  (λ e. no_bay (screened rule t) nobody (candidacies (screened rule t)) i refl e),
  (λ f. go f ((efficient_decision rule t).assigned i) refl),
)
  where
    go : let S = screened rule t in
        None (length (candidacies S)) (λ p. (nth S p).guest ≡ i) (finds_bay S)
        → (s : ℕ) → (efficient_decision rule t).assigned i ≡ s → (efficient_decision rule t).assigned i ≡ 0
    go f zero e = e
    go f (suc j) e = let (p, F, s) = (assigned_at_first_bay rule t i j).0 e in
        absurd (clash F.passes (f p F.below F.of_kind))

pub critical_is_total_of_first_full : CriticalIsTotalOfFirstFull
unfolding efficient finds_full finds_bay full_at nobody
critical_is_total_of_first_full rule t a j = let S = screened rule t in record {
  total_of_first = λ p F.
      set_at_first S nobody (candidacies S) j p (candidacies_sorted S (accepted_keys rule t a)) refl F
      ∙ ap (S.total (nth S p).guest) F.of_kind;
  zero_if_none = λ f. never_set S nobody (candidacies S) j refl f;
}

-- ---- the theorems

pub efficient_is_stable : EfficientIsStable
unfolding efficient_decision screened screen market market_by
efficient_is_stable rule t a = (
  efficient_stable (screened rule t) (accepted_keys rule t a),
  efficient_critical (screened rule t) (accepted_keys rule t a),
)

pub stable_determines : StableDetermines
unfolding efficient_decision screened screen market market_by
stable_determines rule t a b T = stable_is_efficient (screened rule t) (accepted_keys rule t a) b T

pub stable_outcome : StableOutcome
unfolding efficient_outcome efficient_decision
stable_outcome rule t a b T = outcome_of_stable (screened rule t) (accepted_keys rule t a) b T

pub efficient_station_truthful : EfficientStationTruthful
efficient_station_truthful = station_truthful_by efficient efficient_candidates

pub efficient_station_truthful_under : EfficientStationTruthfulUnder
efficient_station_truthful_under rule = efficient_station_truthful (position rule)

pub efficient_limits : EfficientLimits
unfolding efficient_decision
efficient_limits rule t a =
    clears_within rule t (efficient_decision rule t) (efficient_fair (screened rule t) (accepted_keys rule t a))

pub efficient_assigns_no_fewer : EfficientAssignsNoFewer
unfolding efficient_decision decision screened screen market market_by
efficient_assigns_no_fewer rule t a i li z = assigns_no_fewer (screened rule t) (accepted_keys rule t a) i li z
