-- A move keeps what is known of those served, fewer hopes are left after it, and the end is stable.
use Rattle.std.proofs.Common.{◌≡◌, ℕ, suc, ◌<◌, ◌≤◌, true, false, not, ◌⊎◌, sym, refl, ap, ◌∙◌, inl, inr, ⊎_elim}
use Rattle.std.proofs.Common.{le_trans, le_refl, arith}
use borrow.Author.Tests.{not-true}
use Rattle.model.specs.Counting.{◌<?◌, ◌and◌}
use Rattle.model.specs.market.Market.{Screened}
use Rattle.model.specs.market.Stable.{sooner, before_seat, turned_away, Stable}
use Rattle.model.proofs.Tests.{decide, clash, both, first, second, or_cases, lt_yes, eq_yes, eq_or_ne}
use Rattle.model.proofs.Tests.{is_le, not_le, lt_or_le}
use Rattle.model.proofs.Counting.{count_mono, count_strict, sum_strict}
use Rattle.model.proofs.market.Choice.{best_holds, best_best, best_lowest, best_none}
use Rattle.model.proofs.market.Truthful.{Keys}
use Rattle.quiet.specs.Efficient.{holders, holders_before, refuses, hopes, Holding, takes, best_taker}
use Rattle.quiet.specs.Efficient.{Seatable, Moved, Serving}
use Rattle.quiet.proofs.efficient.Order.{Put}
use Rattle.quiet.proofs.efficient.Holding.{not_taken_is_refused, filled_no_fewer, replaced_no_fewer}
use Rattle.quiet.proofs.efficient.Holding.{all_before, last_not_before, as_many_holders, no_seat}

-- ---- whom a station turned away

turned_candidate : (S : Screened) (a : ℕ → ℕ) (i j : ℕ) → turned_away S a i j ≡ true → S.candidate i j ≡ true
unfolding turned_away
turned_candidate S a i j t = first _ _ t

turned_sooner :
    (S : Screened) (a : ℕ → ℕ) (i j : ℕ) {l : ℕ} → a i ≡ suc l → turned_away S a i j ≡ true → sooner S i j i l ≡ true
unfolding turned_away before_seat
turned_sooner S a i j e t = ap (before_seat S i j) (sym e) ∙ second _ _ t

same_turned :
    (S : Screened) (a a' : ℕ → ℕ) (i j : ℕ) → a' i ≡ a i → turned_away S a' i j ≡ true → turned_away S a i j ≡ true
unfolding turned_away
same_turned S a a' i j e t = ap (λ s. S.candidate i j and before_seat S i j s) (sym e) ∙ t

-- of a guest's own candidacies the greater total stands first, then the lower station
own_sooner :
    (S : Screened) (x l j : ℕ) → sooner S x l x j ≡ true
    → (S.total x j < S.total x l) ⊎ ((S.total x j ≡ S.total x l) × (l < j))
unfolding sooner
own_sooner S x l j e = ⊎_elim
    (λ t. inl (lt_yes _ _ t))
    (λ t. ⊎_elim
    (λ (k : (S.key x <? S.key x) ≡ true). absurd (let z : S.key x < S.key x = lt_yes _ _ k in omega arith))
    (λ k. inr (eq_yes _ _ (first _ _ t), lt_yes _ _ (second _ _ k)))
    (or_cases _ _ (second _ _ t)))
    (or_cases _ _ e)

-- ---- the best taker

module _ (S : Screened) (K : Keys S.key S.guest_count) {a held last : ℕ → ℕ} (h : Holding S a held last) (x : ℕ)
    (lx : x < S.guest_count) (w : a x ≡ 0) where
  not_offered :
      (j : ℕ) → S.candidate x j ≡ true → (S.candidate x j and takes S held last x j) ≡ false
      → takes S held last x j ≡ false
  not_offered j c e = ⊎_elim (λ t. absurd (clash (both c t) e)) (λ t. t) (decide (takes S held last x j))

  -- where there is none, all of the guest's candidacies are refused for good
  pub none_takes :
      best_taker S held last x ≡ 0 → (j : ℕ) → j < S.station_count → S.candidate x j ≡ true
      → S.bays j ≤ holders_before S a x j
  unfolding best_taker
  none_takes e j lj c = not_taken_is_refused S K h x j lx w lj (not_offered j c (best_none _ _ _ e j lj))

  -- those that stand before the best are refused for good
  pub sooner_refused :
      {j : ℕ} → best_taker S held last x ≡ suc j → (l : ℕ) → l < S.station_count → S.candidate x l ≡ true
      → sooner S x l x j ≡ true → S.bays l ≤ holders_before S a x l
  unfolding best_taker
  sooner_refused {j} e l ll c t = not_taken_is_refused S K h x l lx w ll (⊎_elim
      (λ (k : takes S held last x l ≡ true).
      let (z, q, g) = best_best S.station_count (λ j. S.candidate x j and takes S held last x j) (S.total x) l ll
      (both c k) in
      let z_is : z ≡ j = let n : suc z ≡ suc j = sym q ∙ e in omega arith in
      let most : S.total x l ≤ S.total x j = rw z_is at g in
      absurd (⊎_elim
      (λ (m : S.total x j < S.total x l). omega arith)
      (λ (m, n). omega (arith, best_lowest _ _ _ j l e n (both c k)))
      (own_sooner S x l j t)))
      (λ k. k)
      (decide (takes S held last x l)))

  pub taker :
      {j : ℕ} → best_taker S held last x ≡ suc j → Seatable S a x j × (takes S held last x j ≡ true)
  unfolding best_taker
  taker {j} e = let (lj, t) = best_holds _ _ _ j e in
      (record { guest = lx; waits = w; station = lj; candidate = first _ _ t }, second _ _ t)

-- ---- hopes

hopes_fall :
    (S : Screened) (a a' : ℕ → ℕ) (y j : ℕ) → y < S.guest_count → j < S.station_count
    → ((i l : ℕ) → holders_before S a i l ≤ holders_before S a' i l) → holders_before S a y j < S.bays j
    → S.bays j ≤ holders_before S a' y j → hopes S a' < hopes S a
unfolding hopes refuses
hopes_fall S a a' y j ly lj m p q =
    sum_strict S.guest_count _ _ (λ i _. count_mono S.station_count _ _ (fewer i)) y ly
    (count_strict S.station_count _ _ (fewer y) j lj (ap not (is_le _ _ q)) (ap not (not_le _ _ p)))
  where
    fewer : (i l : ℕ) → l < S.station_count → not (refuses S a' i l) ≡ true → not (refuses S a i l) ≡ true
    fewer i l _ e = ⊎_elim
        (λ (z : holders_before S a i l < S.bays l). ap not (not_le _ _ z))
        (λ (z : S.bays l ≤ holders_before S a i l).
        absurd (clash (is_le _ _ (le_trans z (m i l))) (not-true _ e)))
        (lt_or_le (holders_before S a i l) (S.bays l))

-- ---- moves

module _ (S : Screened) (K : Keys S.key S.guest_count) {a held last : ℕ → ℕ} (h : Holding S a held last) {x : ℕ}
    (lx : x < S.guest_count) (w : a x ≡ 0) where
  pub nowhere : best_taker S held last x ≡ 0 → Moved S x a 0 a
  nowhere e = record {
    put_out = λ y q. absurd (let z : ◌≡◌ {A = ℕ} 0 (suc y) = q in omega arith);
    others = λ i _ _ _. refl;
    no_fewer = λ i j _. le_refl _;
    settled = λ j lj t. none_takes S K h x lx w e j lj (turned_candidate S _ _ _ t);
    falls = λ y q. absurd (let z : ◌≡◌ {A = ℕ} 0 (suc y) = q in omega arith);
  }

  module _ {j : ℕ} (e : best_taker S held last x ≡ suc j) (a' : ℕ → ℕ) (seat : a' x ≡ suc j)
      (more : (i l : ℕ) → holders_before S a i l ≤ holders_before S a' i l) where
    settled_there :
        (l : ℕ) → l < S.station_count → turned_away S a' x l ≡ true → S.bays l ≤ holders_before S a' x l
    settled_there l ll t =
        le_trans (sooner_refused S K h x lx w e l ll (turned_candidate S _ _ _ t) (turned_sooner S _ _ _ seat t))
        (more x l)

  pub into_free_bay :
      {j : ℕ} {a' : ℕ → ℕ} → best_taker S held last x ≡ suc j → Put a x (suc j) a' → Moved S x a 0 a'
  into_free_bay {j} {a'} e p =
      let s = (taker S K h x lx w e).0 in
      record {
        put_out = λ y q. absurd (let z : ◌≡◌ {A = ℕ} 0 (suc y) = q in omega arith);
        others = λ i _ ne _. p.kept i ne;
        no_fewer = λ i l _. filled_no_fewer S s p i l;
        settled = settled_there e a' p.placed (filled_no_fewer S s p);
        falls = λ y q. absurd (let z : ◌≡◌ {A = ℕ} 0 (suc y) = q in omega arith);
      }

  module _ {j : ℕ} {a₁ a' : ℕ → ℕ} (e : best_taker S held last x ≡ suc j) (full : S.bays j ≤ held j)
      (t : sooner S x j (last j) j ≡ true) (p₁ : Put a (last j) 0 a₁) (p : Put a₁ x (suc j) a') where
    pub in_place_of_last : Moved S x a (suc (last j)) a'
    in_place_of_last =
        let s = (taker S K h x lx w e).0 in
        let y = h.lasts j s.station full in
        let more = replaced_no_fewer S s y p₁ p t in
        record {
          put_out = λ z q. let z_is : last j ≡ z = omega arith in
              rw (← z_is) (
                y.guest,
                p.kept (last j) (no_seat a w y.holds) ∙ p₁.placed,
                λ q. let n : ◌≡◌ {A = ℕ} 0 (suc j) = sym q ∙ y.holds in omega arith,
              );
          others = λ i _ ne nr. p.kept i ne ∙ p₁.kept i (λ q. nr (ap suc (sym q)));
          no_fewer = λ i l _. more i l;
          settled = settled_there e a' p.placed more;
          falls = λ _ _. hopes_fall S a a' (last j) j y.guest s.station more
              (omega (arith, last_not_before S y, h.counted j s.station, h.fits j s.station))
              (omega (arith, all_before S s y p₁ p t, as_many_holders S s y p₁ p, h.counted j s.station));
        }

-- ---- all guests

pub serving_none : {S : Screened} {c a : ℕ → ℕ} → ((i : ℕ) → i < S.guest_count → c i ≡ 0)
    → ((i : ℕ) → i < S.guest_count → a i ≡ 0) → Serving S c 0 a
serving_none z w = record {
  in_hand = λ x q. absurd (let n : ◌≡◌ {A = ℕ} 0 (suc x) = q in omega arith);
  waiting = λ i li _. w i li;
  settled = λ i j li called. absurd (called (z i li));
}

pub serving_moved :
    {S : Screened} {c : ℕ → ℕ} {x r : ℕ} {a a' : ℕ → ℕ} → Serving S c (suc x) a → Moved S x a r a' → Serving S c r a'
serving_moved {S} {c} {x} {r} {a} {a'} s m = record {
  in_hand = called;
  waiting = λ i li z. m.others i li
      (λ e. s.in_hand x refl (ap c (sym e) ∙ z)) (λ e. called i e z) ∙ s.waiting i li z;
  settled = λ i j li k ne lj t. ⊎_elim
      (λ (e : i ≡ x). rw e (m.settled j lj (rw e at t)))
      (λ (ne' : i ≡ x → ⊥). le_trans (s.settled i j li k (λ q. ne' (let z : suc x ≡ suc i = q in omega arith)) lj
      (same_turned S a a' i j (m.others i li ne' ne) t)) (m.no_fewer i j lj))
      (eq_or_ne i x);
}
  where
    called : (y : ℕ) → r ≡ suc y → c y ≡ 0 → ⊥
    called y q z = (m.put_out y q).2 (s.waiting y (m.put_out y q).0 z)

pub served_stable :
    {S : Screened} {a held last c : ℕ → ℕ} → Holding S a held last → ((i : ℕ) → i < S.guest_count → c i ≡ 0 → ⊥)
    → Serving S c 0 a → Stable S a
unfolding holders holders_before
served_stable {S} {a} h all s = record {
  candidates = h.candidates;
  fits = λ j lj. let few : holders S a j ≤ S.bays j = omega (arith, h.counted j lj, h.fits j lj) in few;
  full = λ i j li lj t. s.settled i j li (all i li) (λ q. let z : ◌≡◌ {A = ℕ} 0 (suc i) = q in omega arith) lj t;
}
