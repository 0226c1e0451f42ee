-- What taking one candidacy does, and that the efficient decision is the one that stable assignments give.
use Prim.Native.Nat.{ℕ, zero, suc, ◌≤◌, ◌<◌}
use mathlib.Core.Bool.{true, false}
use mathlib.Core.List.{List, [], ◌∷◌}
use mathlib.Core.Logic.{◌⊎◌, inl, inr, ⊎_elim}
use mathlib.Core.Path.{◌≡◌, refl, sym, ap, subst, ◌∙◌}
use native.Mathlib.Nat.{le_trans, le_antisymm, le_refl}
use native.Mathlib.Omega.{arith}
use Rattle.model.specs.Counting.{◌=?◌, ◌and◌, only, count}
use Rattle.model.specs.market.Market.{Screened}
use Rattle.model.specs.market.Mechanism.{Decision, served}
use Rattle.model.specs.market.Stable.{sooner, before_seat, turned_away, Stable, turned_away_at}
use Rattle.model.specs.market.Efficient.{Candidacy, candidacies, put, bay_left, assign, first_of, turn_away, take_one}
use Rattle.model.specs.market.Efficient.{take_all, nobody, efficient}
use Rattle.model.proofs.Tests.{decide, both, first, second, only_le, le_only, lt_yes, lt_no, eq_yes, eq_no}
use Rattle.model.proofs.Tests.{is_eq, not_eq, eq_or_ne}
use Rattle.model.proofs.Counting.{count_mono, count_strict, le_greatest, greatest_le}
use Rattle.model.proofs.market.Truthful.{Keys}
use Rattle.model.proofs.market.Order.{sooner_total, sooner_self, sooner_both}
use Rattle.model.proofs.market.Candidacies.{In, Sorted, candidacies_only, candidacies_all, candidacies_sorted}

pub put_same : (f : ℕ → ℕ) (k v i : ℕ) → i ≡ k → put f k v i ≡ v
unfolding put
put_same f k v i e = rw (is_eq i k e)

pub put_other : (f : ℕ → ℕ) (k v i : ℕ) → (i ≡ k → ⊥) → put f k v i ≡ f i
unfolding put
put_other f k v i n = rw (not_eq i k n)

pub put_cases : (f : ℕ → ℕ) (k v i : ℕ) (P : ℕ → Type 0) → (i ≡ k → P v) → ((i ≡ k → ⊥) → P (f i)) → P (put f k v i)
put_cases f k v i P there elsewhere = ⊎_elim
    (λ (e : i ≡ k). rw (put_same f k v i e) (there e))
    (λ (n : i ≡ k → ⊥). rw (put_other f k v i n) (elsewhere n))
    (eq_or_ne i k)

-- a candidacy that is taken is skipped, assigned or turned away
pub take_cases : (S : Screened) (D : Decision) (x : Candidacy) (P : Decision → Type 0)
    → ((D.assigned x.guest ≡ 0 → ⊥) → P D)
    → (D.assigned x.guest ≡ 0 → served S D x.station < S.bays x.station → P (assign D x))
    → (D.assigned x.guest ≡ 0 → S.bays x.station ≤ served S D x.station → P (turn_away S D x))
    → P (take_one S D x)
unfolding take_one bay_left
take_cases S D x P skip seat full = ⊎_elim
    (λ (e : D.assigned x.guest =? 0 ≡ true). rw e (⊎_elim
    (λ (b : bay_left S D x.station ≡ true). rw b (seat (eq_yes _ _ e) (lt_yes _ _ b)))
    (λ (b : bay_left S D x.station ≡ false). rw b (full (eq_yes _ _ e) (lt_no _ _ b)))
    (decide (bay_left S D x.station))))
    (λ (e : D.assigned x.guest =? 0 ≡ false). rw e (skip (eq_no _ _ e)))
    (decide (D.assigned x.guest =? 0))

-- a later total does not move a critical total that is set
pub first_of_lem : (c v : ℕ) → (first_of c v ≡ c) ⊎ ((c ≡ 0) × (first_of c v ≡ v))
unfolding first_of
first_of_lem zero v = inr (refl, refl)
first_of_lem (suc c) v = inl refl

module _ (S : Screened) (a : ℕ → ℕ) (i j : ℕ) where
  pub away_candidate : turned_away S a i j ≡ true → S.candidate i j ≡ true
  unfolding turned_away
  away_candidate h = first _ _ h

  pub away_from : (l : ℕ) → a i ≡ suc l → turned_away S a i j ≡ true → sooner S i j i l ≡ true
  unfolding turned_away before_seat
  away_from l e h = let b : before_seat S i j (a i) ≡ true = second _ _ h in rw e at b

  pub is_away : S.candidate i j ≡ true → ((l : ℕ) → a i ≡ suc l → sooner S i j i l ≡ true) → turned_away S a i j ≡ true
  unfolding turned_away before_seat
  is_away c h = go (a i) refl
    where
      go : (s : ℕ) → a i ≡ s → (S.candidate i j and before_seat S i j s) ≡ true
      go zero e = both c refl
      go (suc l) e = both c (h l e)

module _ (S : Screened) (a : ℕ → ℕ) (T : Stable S a) where
  -- guest i is where a has it, or waits for it among those that are still to be taken
  abbrev Settled : Decision → List Candidacy → ℕ → Type 0
  Settled D l i = (D.assigned i ≡ a i) × ((s : ℕ) → a i ≡ suc s → (k r : ℕ) → In k r l → sooner S i s k r ≡ true)

  abbrev Waits : Decision → List Candidacy → ℕ → Type 0
  Waits D l i = (D.assigned i ≡ 0) × ((s : ℕ) × (a i ≡ suc s) × In i s l)

  -- a decision on the way, with those that are still to be taken
  record OnTheWay (D : Decision) (l : List Candidacy) : Type 0 where
    seats : (i : ℕ) → i < S.guest_count → Settled D l i ⊎ Waits D l i
    below : (j : ℕ) → D.critical j ≤ turned_away_at S a j
    reached : (i j : ℕ) → i < S.guest_count → j < S.station_count → turned_away S a i j ≡ true
        → In i j l ⊎ (S.total i j ≤ D.critical j)
    falling : (j : ℕ) → (D.critical j ≡ 0) ⊎ ((k r : ℕ) → In k r l → S.total k r ≤ D.critical j)

  module _ (D : Decision) (x : Candidacy) (l : List Candidacy) (W : OnTheWay D (x ∷ l)) (O : Sorted S (x ∷ l))
      (lx : x.guest < S.guest_count) (ls : x.station < S.station_count)
      (c : S.candidate x.guest x.station ≡ true) where
    -- who is not assigned yet waits, or is assigned nowhere
    free : D.assigned x.guest ≡ 0 → (s : ℕ) → a x.guest ≡ suc s → (s ≡ x.station) ⊎ In x.guest s l
    free z s e = ⊎_elim
        (λ h. absurd (let q : suc s ≡ 0 = sym e ∙ sym h.0 ∙ z in omega arith))
        (λ h. let q : suc h.1.0 ≡ suc s = sym h.1.1 ∙ e in
        let same : h.1.0 ≡ s = omega arith in
        ⊎_elim (λ g. inl (sym same ∙ g.1)) (λ g. inr (subst (λ q. In x.guest q l) same g)) h.1.2)
        (W.seats x.guest lx)

    -- where x is not its guest's seat, it stands before it
    away : D.assigned x.guest ≡ 0 → (a x.guest ≡ suc x.station → ⊥)
        → turned_away S a x.guest x.station ≡ true
    away z n = is_away S a x.guest x.station c (λ s e.
        ⊎_elim (λ q. absurd (n (e ∙ ap suc q))) (λ h. O.0 x.guest s h) (free z s e))

    -- whoever a has at the station before x is there
    holders : S.bays x.station
        ≤ count S.guest_count (λ k. a k =? suc x.station and sooner S k x.station x.guest x.station)
        → S.bays x.station ≤ served S D x.station
    unfolding served
    holders h = le_trans h (count_mono S.guest_count _ _ (λ k lk p.
        let e : a k ≡ suc x.station = eq_yes _ _ (first _ _ p) in
        let b : sooner S k x.station x.guest x.station ≡ true = second _ _ p in
        ⊎_elim
        (λ q. is_eq _ _ (q.0 ∙ e))
        (λ q. let u : suc q.1.0 ≡ suc x.station = sym q.1.1 ∙ e in
        let same : q.1.0 ≡ x.station = omega arith in
        let w : In k x.station (x ∷ l) = subst (λ r. In k r (x ∷ l)) same q.1.2 in
        absurd (⊎_elim
        (λ g. sooner_self S x.guest x.station (rw g.0 at b))
        (λ g. sooner_both S k x.station x.guest x.station b (O.0 k x.station g))
        w))
        (W.seats k lk)))

    -- where a bay is left, a has the guest there
    seat_is : D.assigned x.guest ≡ 0 → served S D x.station < S.bays x.station
        → a x.guest ≡ suc x.station
    seat_is z b = ⊎_elim
        (λ e. e)
        (λ n. absurd (omega (arith, holders (T.full x.guest x.station lx ls (away z n)))))
        (eq_or_ne (a x.guest) (suc x.station))

    -- and where none is left, it has not
    seat_is_not : D.assigned x.guest ≡ 0 → S.bays x.station ≤ served S D x.station
        → a x.guest ≡ suc x.station → ⊥
    unfolding served
    seat_is_not z b e =
        omega (
          arith,
          T.fits x.station ls,
          count_strict S.guest_count (λ k. D.assigned k =? suc x.station) (λ k. a k =? suc x.station)
              (λ k lk p. let q : D.assigned k ≡ suc x.station = eq_yes _ _ p in ⊎_elim
              (λ h. is_eq _ _ (sym h.0 ∙ q))
              (λ h. let u : 0 ≡ suc x.station = sym h.0 ∙ q in absurd (omega arith))
              (W.seats k lk))
              x.guest lx
              (not_eq _ _ (λ q. let u : 0 ≡ suc x.station = sym z ∙ q in omega arith)) (is_eq _ _ e),
        )

    -- the others go on
    others : (i : ℕ) → i < S.guest_count → (D.assigned i ≡ 0 → i ≡ x.guest → a i ≡ suc x.station → ⊥)
        → Settled D l i ⊎ Waits D l i
    others i li n = ⊎_elim
        (λ h. inl (h.0, λ s e k r g. h.1 s e k r (inr g)))
        (λ h. ⊎_elim
        (λ g. absurd (n h.0 g.0 (h.1.1 ∙ ap suc g.1)))
        (λ g. inr (h.0, (h.1.0, h.1.1, g)))
        h.1.2)
        (W.seats i li)

    falls : (j : ℕ) → (D.critical j ≡ 0) ⊎ ((k r : ℕ) → In k r l → S.total k r ≤ D.critical j)
    falls j = ⊎_elim (λ z. inl z) (λ h. inr (λ k r g. h k r (inr g))) (W.falling j)

    -- a candidacy that was turned away is still to come, unless it is x
    to_come : (i j : ℕ) → i < S.guest_count → j < S.station_count → turned_away S a i j ≡ true
        → ((i ≡ x.guest) × (j ≡ x.station)) ⊎ (In i j l ⊎ (S.total i j ≤ D.critical j))
    to_come i j li lj h = ⊎_elim
        (λ g. ⊎_elim (λ e. inl e) (λ e. inr (inl e)) g)
        (λ g. inr (inr g))
        (W.reached i j li lj h)

    -- a seat that is taken stands before x
    not_away : (D.assigned x.guest ≡ 0 → ⊥) → turned_away S a x.guest x.station ≡ true → ⊥
    not_away n h = ⊎_elim
        (λ q. go (a x.guest) refl q.0 q.1)
        (λ q. n q.0)
        (W.seats x.guest lx)
      where
        go : (s : ℕ) → a x.guest ≡ s → D.assigned x.guest ≡ a x.guest
            → ((s : ℕ) → a x.guest ≡ suc s → (k r : ℕ) → In k r (x ∷ l) → sooner S x.guest s k r ≡ true) → ⊥
        go zero e d f = n (d ∙ e)
        go (suc s) e d f = sooner_both S x.guest x.station x.guest s
            (away_from S a x.guest x.station s e h) (f s e x.guest x.station (inl (refl, refl)))

    skipped : (D.assigned x.guest ≡ 0 → ⊥) → OnTheWay D l
    skipped n = record {
      seats = λ i li. others i li (λ z e _. n (rw e at z));
      below = W.below;
      reached = λ i j li lj h. ⊎_elim (λ e. absurd (not_away n (rw (e.0, e.1) at h))) (λ g. g) (to_come i j li lj h);
      falling = falls;
    }

    seated : D.assigned x.guest ≡ 0 → served S D x.station < S.bays x.station → OnTheWay (assign D x) l
    unfolding assign
    seated z b = let own : a x.guest ≡ suc x.station = seat_is z b in record {
      seats = λ i li. ⊎_elim
          (λ (e : i ≡ x.guest). inl (
            put_same _ _ _ i e ∙ sym (ap a e ∙ own),
            λ s q k r g.
                let u : suc s ≡ suc x.station = sym q ∙ ap a e ∙ own in
                let same : s ≡ x.station = omega arith in
                rw (e, same) (O.0 k r g),
          ))
          (λ (n : i ≡ x.guest → ⊥). ⊎_elim
          (λ h. inl (put_other _ _ _ i n ∙ h.0, h.1))
          (λ h. inr (put_other _ _ _ i n ∙ h.0, h.1))
          (others i li (λ _ e _. n e)))
          (eq_or_ne i x.guest);
      below = W.below;
      reached = λ i j li lj h. ⊎_elim
          (λ e. absurd (sooner_self S x.guest x.station
          (away_from S a x.guest x.station x.station own (rw (e.0, e.1) at h))))
          (λ g. g)
          (to_come i j li lj h);
      falling = falls;
    }

    -- the critical total where x is turned away
    new : ℕ
    new = first_of (D.critical x.station) (S.total x.guest x.station)

    new_least : S.total x.guest x.station ≤ new
    unfolding new first_of
    new_least = ⊎_elim
        (λ q. ⊎_elim
        (λ (y : D.critical x.station ≡ 0). rw y (le_refl _))
        (λ f. rw q (f x.guest x.station (inl (refl, refl))))
        (W.falling x.station))
        (λ q. rw q.1 (le_refl _))
        (first_of_lem (D.critical x.station) (S.total x.guest x.station))

    new_most : turned_away S a x.guest x.station ≡ true → new ≤ turned_away_at S a x.station
    unfolding new turned_away_at
    new_most h = ⊎_elim
        (λ q. rw q (W.below x.station))
        (λ q. rw q.1 (le_trans (le_only _ _ h)
        (le_greatest S.guest_count (λ i. only (turned_away S a i x.station) (S.total i x.station))
        x.guest lx)))
        (first_of_lem (D.critical x.station) (S.total x.guest x.station))

    new_grows : D.critical x.station ≤ new
    unfolding new
    new_grows = ⊎_elim (λ q. rw q (le_refl _)) (λ q. rw q.0 (omega arith))
        (first_of_lem (D.critical x.station) (S.total x.guest x.station))

    refused : D.assigned x.guest ≡ 0 → S.bays x.station ≤ served S D x.station
        → OnTheWay (turn_away S D x) l
    unfolding turn_away new
    refused z b = let n : a x.guest ≡ suc x.station → ⊥ = seat_is_not z b in record {
      seats = λ i li. others i li (λ _ e q. n (rw e at q));
      below = λ j. put_cases D.critical x.station new j (λ v. v ≤ turned_away_at S a j)
          (λ e. rw e (new_most (away z n)))
          (λ _. W.below j);
      reached = λ i j li lj h. ⊎_elim
          (λ e. inr (rw (put_same D.critical x.station new j e.1, e.0, e.1) new_least))
          (λ g. ⊎_elim (λ e. inl e) (λ e. inr (put_cases D.critical x.station new j (λ v. S.total i j ≤ v)
          (λ q. le_trans e (rw q new_grows)) (λ _. e))) g)
          (to_come i j li lj h);
      falling = λ j.
          put_cases D.critical x.station new j (λ v. (v ≡ 0) ⊎ ((k r : ℕ) → In k r l → S.total k r ≤ v))
          (λ e. inr (λ k r g. le_trans (sooner_total S x.guest x.station k r (O.0 k r g)) new_least))
          (λ _. falls j);
    }

  on_the_way :
      (D : Decision) (l : List Candidacy)
      → ((k s : ℕ) → In k s l → (k < S.guest_count) × (s < S.station_count) × (S.candidate k s ≡ true))
      → Sorted S l → OnTheWay D l → OnTheWay (take_all S D l) []
  unfolding take_all
  on_the_way D [] c O W = W
  on_the_way D (x ∷ l) c O W =
      let (lx, ls, cx) = c x.guest x.station (inl (refl, refl)) in
      on_the_way (take_one S D x) l (λ k s h. c k s (inr h)) O.1
      (take_cases S D x (λ E. OnTheWay E l) (skipped D x l W O lx ls cx) (seated D x l W O lx ls cx)
      (refused D x l W O lx ls cx))

  at_start : OnTheWay nobody (candidacies S)
  unfolding nobody
  at_start = record {
    seats = λ i li. go i li (a i) refl;
    below = λ j. omega arith;
    reached = λ i j li lj h. inl (candidacies_all S i j li lj (away_candidate S a i j h));
    falling = λ j. inl refl;
  }
    where
      go : (i : ℕ) → i < S.guest_count → (s : ℕ) → a i ≡ s
          → Settled nobody (candidacies S) i ⊎ Waits nobody (candidacies S) i
      go i li zero e = inl (sym e, λ s q. absurd (let u : suc s ≡ 0 = sym q ∙ e in omega arith))
      go i li (suc s) e =
          let (ls, c) = T.candidates i s li e in inr (refl, (s, e, candidacies_all S i s li ls c))

-- a stable assignment is the efficient one, and the greatest totals that it turns away are the critical ones
pub stable_is_efficient :
    (S : Screened) → Keys S.key S.guest_count → (a : ℕ → ℕ) → Stable S a
    → ((i : ℕ) → i < S.guest_count → a i ≡ (efficient S).assigned i)
    × ((j : ℕ) → j < S.station_count → turned_away_at S a j ≡ (efficient S).critical j)
unfolding efficient turned_away_at
stable_is_efficient S K a T =
    let W = on_the_way S a T nobody (candidacies S) (candidacies_only S) (candidacies_sorted S K) (at_start S a T) in (
      (λ i li. ⊎_elim (λ h. sym h.0) (λ h. absurd h.1.2) (W.seats i li)),
      (λ j lj. le_antisymm
          (greatest_le S.guest_count _ _ (λ i li. only_le _ _ _
          (λ h. ⊎_elim (λ g. absurd g) (λ g. g) (W.reached i j li lj h))))
          (W.below j)),
    )
