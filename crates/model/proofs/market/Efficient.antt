-- The efficient mechanism's assignment is stable, and its decisions are fair.
use Prim.Native.Nat.{ℕ, zero, suc, ◌≤◌, ◌<◌}
use mathlib.Core.Bool.{true, false}
use mathlib.Core.List.{List, [], ◌∷◌}
use mathlib.Core.Logic.{◌⊎◌, inl, inr, ⊎_elim}
use mathlib.Core.Path.{◌≡◌, refl, sym, ap, ◌∙◌}
use native.Mathlib.Nat.{le_trans}
use native.Mathlib.Omega.{arith}
use Rattle.model.specs.Counting.{◌=?◌, ◌and◌, count}
use Rattle.model.specs.market.Market.{Screened, queue, rank, provisional}
use Rattle.model.specs.market.Mechanism.{Decision, served, truthful}
use Rattle.model.specs.market.Stable.{sooner, turned_away, Stable, turned_away_at}
use Rattle.model.specs.market.Efficient.{Candidacy, candidacies, put, assign, turn_away, take_one, take_all, nobody}
use Rattle.model.specs.market.Efficient.{efficient}
use Rattle.model.specs.market.Outcome.{outcome_by}
use Rattle.model.specs.claims.Efficient.{decided_by}
use Rattle.model.proofs.Tests.{decide, both, first, second, and_false, only_le, eq_yes, is_eq, eq_or_ne}
use Rattle.model.proofs.Counting.{count_mono, count_strict, count_or, count_one, count_none, greatest_le}
use Rattle.model.proofs.market.Decisions.{Candidates, Fair, outcome_same}
use Rattle.model.proofs.market.Queues.{provisional_rank}
use Rattle.model.proofs.market.Truthful.{Keys, assigned_to_best, candidate_held}
use Rattle.model.proofs.market.Order.{sooner_total, sooner_self, sooner_both, sooner_before}
use Rattle.model.proofs.market.Candidacies.{In, Sorted, candidacies_only, candidacies_all, candidacies_sorted}
use Rattle.model.proofs.market.Taking.{put_same, put_other, put_cases, take_cases, away_candidate, away_from}
use Rattle.model.proofs.market.Taking.{is_away, stable_is_efficient}

-- ---- only candidates are assigned

module _ (S : Screened) where
  assign_candidates : (D : Decision) (x : Candidacy) → x.station < S.station_count
      → S.candidate x.guest x.station ≡ true → Candidates S D → Candidates S (assign D x)
  unfolding assign
  assign_candidates D x ls c C i j li = put_cases D.assigned x.guest (suc x.station) i
      (λ v. v ≡ suc j → (j < S.station_count) × (S.candidate i j ≡ true))
      (λ e q. let same : x.station ≡ j = omega arith in rw (e, ← same) (ls, c))
      (λ _ q. C i j li q)

  all_candidates :
      (D : Decision) (l : List Candidacy)
      → ((k s : ℕ) → In k s l → (k < S.guest_count) × (s < S.station_count) × (S.candidate k s ≡ true))
      → Candidates S D → Candidates S (take_all S D l)
  unfolding take_all turn_away
  all_candidates D [] c C = C
  all_candidates D (x ∷ l) c C =
      let (lx, ls, cx) = c x.guest x.station (inl (refl, refl)) in
      all_candidates (take_one S D x) l (λ k s h. c k s (inr h))
      (take_cases S D x (Candidates S) (λ _. C) (λ _ _. assign_candidates D x ls cx C) (λ _ _. C))

  pub efficient_candidates : Candidates S (efficient S)
  unfolding efficient nobody
  efficient_candidates =
      all_candidates nobody (candidacies S) (candidacies_only S)
      (λ i j li e. absurd (let z : 0 ≡ suc j = e in omega arith))

-- ---- the assignment is stable

module _ (S : Screened) where
  -- an assignment on the way, with those that are still to be taken: whoever is assigned stands before them
  record StableSoFar (a : ℕ → ℕ) (l : List Candidacy) : Type 0 where
    ahead : (i s : ℕ) → i < S.guest_count → a i ≡ suc s → (k r : ℕ) → In k r l → sooner S i s k r ≡ true
    fits : (j : ℕ) → count S.guest_count (λ i. a i =? suc j) ≤ S.bays j
    full : (i j : ℕ) → i < S.guest_count → j < S.station_count → turned_away S a i j ≡ true
        → In i j l ⊎ (S.bays j ≤ count S.guest_count (λ k. a k =? suc j and sooner S k j i j))

  module _ (D : Decision) (x : Candidacy) (l : List Candidacy) (W : StableSoFar D.assigned (x ∷ l))
      (O : Sorted S (x ∷ l)) (lx : x.guest < S.guest_count) where
    -- all but x go on
    full_but : ((turned_away S D.assigned x.guest x.station ≡ true)
        → S.bays x.station ≤ count S.guest_count
        (λ k. D.assigned k =? suc x.station and sooner S k x.station x.guest x.station))
        → StableSoFar D.assigned l
    full_but f = record {
      ahead = λ i s li e k r h. W.ahead i s li e k r (inr h);
      fits = W.fits;
      full = λ i j li lj h. ⊎_elim
          (λ g. ⊎_elim (λ e. inr (rw (e.0, e.1) (f (rw (e.0, e.1) at h)))) (λ e. inl e) g)
          (λ g. inr g)
          (W.full i j li lj h);
    }

    skipped : (D.assigned x.guest ≡ 0 → ⊥) → StableSoFar D.assigned l
    skipped n = full_but (λ h. absurd (go (D.assigned x.guest) refl h))
      where
        go : (s : ℕ) → D.assigned x.guest ≡ s → turned_away S D.assigned x.guest x.station ≡ true → ⊥
        go zero e h = n e
        go (suc s) e h = sooner_both S x.guest x.station x.guest s
            (away_from S D.assigned x.guest x.station s e h)
            (W.ahead x.guest s lx e x.guest x.station (inl (refl, refl)))

    refused : S.bays x.station ≤ served S D x.station → StableSoFar (turn_away S D x).assigned l
    unfolding turn_away served
    refused b = full_but (λ h. le_trans b (count_mono S.guest_count _ _ (λ k lk p.
        both p (W.ahead k x.station lk (eq_yes _ _ p) x.guest x.station (inl (refl, refl))))))

    module _ (z : D.assigned x.guest ≡ 0) where
      -- whoever was assigned still is
      stays : (k j : ℕ) → D.assigned k ≡ suc j → (assign D x).assigned k ≡ suc j
      unfolding assign
      stays k j e = put_other _ _ _ k (λ q. let u : 0 ≡ suc j = sym z ∙ ap D.assigned (sym q) ∙ e in omega arith) ∙ e

      was : (i : ℕ) → (i ≡ x.guest → ⊥) → (s : ℕ) → (assign D x).assigned i ≡ suc s → D.assigned i ≡ suc s
      unfolding assign
      was i n s e = sym (put_other _ _ _ i n) ∙ e

      fewer_away : (i j : ℕ) → turned_away S (assign D x).assigned i j ≡ true → turned_away S D.assigned i j ≡ true
      fewer_away i j h = is_away S D.assigned i j (away_candidate S _ i j h)
          (λ s e. away_from S (assign D x).assigned i j s (stays i s e) h)

      own : (assign D x).assigned x.guest ≡ suc x.station
      unfolding assign
      own = put_same _ _ _ x.guest refl

      one_more : served S D x.station < S.bays x.station → (j : ℕ)
          → count S.guest_count (λ i. (assign D x).assigned i =? suc j) ≤ S.bays j
      unfolding served assign
      one_more b j = ⊎_elim
          (λ (e : j ≡ x.station).
          let one : count S.guest_count (λ i. i =? x.guest) ≤ 1 = count_one S.guest_count _
          (λ k r lk lr p q. eq_yes _ _ p ∙ sym (eq_yes _ _ q)) in
          rw e (omega (
            arith,
            count_or S.guest_count (λ i. put D.assigned x.guest (suc x.station) i =? suc x.station)
                (λ i. D.assigned i =? suc x.station) (λ i. i =? x.guest)
                (λ i li p. ⊎_elim
                (λ (q : i ≡ x.guest). inr (is_eq _ _ q))
                (λ (q : i ≡ x.guest → ⊥). inl (is_eq _ _ (sym (put_other _ _ _ i q) ∙ eq_yes _ _ p)))
                (eq_or_ne i x.guest)),
          )))
          (λ (n : j ≡ x.station → ⊥). le_trans (count_mono S.guest_count _ (λ i. D.assigned i =? suc j)
          (λ i li p. is_eq _ _ (put_cases D.assigned x.guest (suc x.station) i
          (λ v. v ≡ suc j → D.assigned i ≡ suc j) (λ _ q. absurd (n (omega arith))) (λ _ q. q) (eq_yes _ _ p))))
          (W.fits j))
          (eq_or_ne j x.station)

      seated : served S D x.station < S.bays x.station → StableSoFar (assign D x).assigned l
      seated b = record {
        ahead = λ i s li e k r h. ⊎_elim
            (λ (q : i ≡ x.guest).
            let u : suc x.station ≡ suc s = sym own ∙ ap (assign D x).assigned (sym q) ∙ e in
            let same : s ≡ x.station = omega arith in
            rw (q, same) (O.0 k r h))
            (λ (n : i ≡ x.guest → ⊥). W.ahead i s li (was i n s e) k r (inr h))
            (eq_or_ne i x.guest);
        fits = one_more b;
        full = λ i j li lj h. ⊎_elim
            (λ g. ⊎_elim
            (λ e. absurd (sooner_self S x.guest x.station
            (away_from S _ x.guest x.station x.station own (rw (e.0, e.1) at h))))
            (λ e. inl e)
            g)
            (λ g. inr (le_trans g (count_mono S.guest_count _ _
            (λ k lk p. both (is_eq _ _ (stays k j (eq_yes _ _ (first _ _ p)))) (second _ _ p)))))
            (W.full i j li lj (fewer_away i j h));
      }

  stable_so_far :
      (D : Decision) (l : List Candidacy)
      → ((k s : ℕ) → In k s l → (k < S.guest_count) × (s < S.station_count) × (S.candidate k s ≡ true))
      → Sorted S l → StableSoFar D.assigned l → StableSoFar (take_all S D l).assigned []
  unfolding take_all
  stable_so_far D [] c O W = W
  stable_so_far D (x ∷ l) c O W =
      let lx = (c x.guest x.station (inl (refl, refl))).0 in
      stable_so_far (take_one S D x) l (λ k s h. c k s (inr h)) O.1
      (take_cases S D x (λ E. StableSoFar E.assigned l) (skipped D x l W O lx) (seated D x l W O lx)
      (λ _. refused D x l W O lx))

  at_start : StableSoFar nobody.assigned (candidacies S)
  unfolding nobody
  at_start = record {
    ahead = λ i s li e. absurd (none s e);
    fits = λ j. let z : count S.guest_count (λ i. 0 =? suc j) ≡ 0 =
        count_none S.guest_count _ (λ i li p. none j (eq_yes _ _ p)) in omega arith;
    full = λ i j li lj h. inl (candidacies_all S i j li lj (away_candidate S _ i j h));
  }
    where
      none : (s : ℕ) → 0 ≡ suc s → ⊥
      none s e = omega arith

module _ (S : Screened) (K : Keys S.key S.guest_count) where
  settled : StableSoFar S (efficient S).assigned []
  unfolding efficient
  settled = stable_so_far S nobody (candidacies S) (candidacies_only S) (candidacies_sorted S K) (at_start S)

  pub efficient_stable : Stable S (efficient S).assigned
  efficient_stable = record {
    candidates = efficient_candidates S;
    fits = λ j lj. settled.fits j;
    full = λ i j li lj h. ⊎_elim (λ g. absurd g) (λ g. g) (settled.full i j li lj h);
  }

  pub efficient_critical :
      (j : ℕ) → j < S.station_count → (efficient S).critical j ≡ turned_away_at S (efficient S).assigned j
  efficient_critical j lj = sym ((stable_is_efficient S K (efficient S).assigned efficient_stable).1 j lj)

-- a stable assignment comes to the efficient outcome
pub outcome_of_stable :
    (S : Screened) → Keys S.key S.guest_count → (a : ℕ → ℕ) → Stable S a
    → outcome_by S (decided_by S a) ≡ outcome_by S (efficient S)
outcome_of_stable S K a T =
    let (seats, criticals) = stable_is_efficient S K a T in
    outcome_same S (decided_by S a) (efficient S) seats (λ i j li e. criticals j (T.candidates i j li e).0)

-- who is assigned has a total at least as great as any that was turned away
stable_under : (S : Screened) (a : ℕ → ℕ) → Stable S a → (i j : ℕ) → i < S.guest_count → a i ≡ suc j
    → turned_away_at S a j ≤ S.total i j
unfolding turned_away_at
stable_under S a T i j li e =
    let lj : j < S.station_count = (T.candidates i j li e).0 in
    greatest_le S.guest_count _ _ (λ k lk. only_le _ _ _ (λ h. ⊎_elim
    (λ (q : sooner S i j k j ≡ true). sooner_total S i j k j q)
    (λ (q : sooner S i j k j ≡ false). absurd (omega (
      arith,
      T.full k j lk lj h,
      T.fits j lj,
      count_strict S.guest_count (λ r. a r =? suc j and sooner S r j k j) (λ r. a r =? suc j)
          (λ r lr p. first _ _ p) i li (ap (λ b. a i =? suc j and b) q ∙ and_false _) (is_eq _ _ e),
    )))
    (decide (sooner S i j k j))))

pub efficient_fair : (S : Screened) → Keys S.key S.guest_count → Fair S (efficient S)
unfolding served
efficient_fair S K = record {
  candidates = efficient_candidates S;
  fits = (settled S K).fits;
  under = λ i j li e. rw (efficient_critical S K j (efficient_candidates S i j li e).0)
      (stable_under S _ (efficient_stable S K) i j li e);
}

-- ---- whoever document 01's mechanism assigns is assigned

module _ (S : Screened) (K : Keys S.key S.guest_count) (i : ℕ) (li : i < S.guest_count)
    (z : (efficient S).assigned i ≡ 0) where
  -- who is assigned nowhere has a station's bays before it
  holds_nothing : (j : ℕ) → j < S.station_count → provisional (queue S j) i ≡ true → ⊥
  unfolding rank queue
  holds_nothing j lj h =
      let away = is_away S (efficient S).assigned i j (candidate_held S i j h)
      (λ s e. absurd (let u : 0 ≡ suc s = sym z ∙ e in omega arith)) in
      omega (
        arith,
        provisional_rank (queue S j) i h,
        (efficient_stable S K).full i j li lj away,
        count_mono S.guest_count (λ k. (efficient S).assigned k =? suc j and sooner S k j i j) _ (λ k lk p.
            both (efficient_candidates S k j lk (eq_yes _ _ (first _ _ p))).1 (sooner_before S k i j (second _ _ p))),
      )

  pub assigns_no_fewer : (truthful S).assigned i ≡ 0
  assigns_no_fewer = go ((truthful S).assigned i) refl
    where
      go : (s : ℕ) → (truthful S).assigned i ≡ s → (truthful S).assigned i ≡ 0
      go zero e = e
      go (suc j) e = let (lj, h) = (assigned_to_best S i).somewhere j e in absurd (holds_nothing j lj h)
