-- The list of all candidacies: it has each of them, and no other, and it stands in order.
use Prim.Native.Nat.{ℕ, zero, suc, ◌≤◌, ◌<◌}
use mathlib.Core.Bool.{Bool, true, false}
use mathlib.Core.List.{List, [], ◌∷◌}
use mathlib.Core.Logic.{◌⊎◌, inl, inr, ⊎_elim}
use mathlib.Core.Path.{◌≡◌, refl}
use native.Mathlib.Nat.{eq-or-lt_of_le, le_of_suc-le-suc, not-suc-le-zero, le_refl}
use native.Mathlib.Omega.{arith}
use Rattle.model.specs.market.Market.{Screened}
use Rattle.model.specs.market.Stable.{sooner}
use Rattle.model.specs.market.Efficient.{Candidacy, candidacy, insert, insert_where, insert_guest, candidacies_below}
use Rattle.model.specs.market.Efficient.{candidacies}
use Rattle.model.proofs.Tests.{decide}
use Rattle.model.proofs.Counting.{up, here}
use Rattle.model.proofs.market.Truthful.{Keys}
use Rattle.model.proofs.market.Order.{sooner_trans, sooner_or}

-- guest i's candidacy at station j is in the list
abbrev pub In : ℕ → ℕ → List Candidacy → Type 0
In i j [] = ⊥
In i j (y ∷ l) = ((i ≡ y.guest) × (j ≡ y.station)) ⊎ In i j l

abbrev pub Sorted : Screened → List Candidacy → Type 0
Sorted S [] = Unit {0}
Sorted S (x ∷ l) = ((k s : ℕ) → In k s l → sooner S x.guest x.station k s ≡ true) × Sorted S l

module _ (S : Screened) (x : Candidacy) where
  -- x goes behind y where y is the sooner, and else before it
  insert_cases :
      (y : Candidacy) (l : List Candidacy) (P : List Candidacy → Type 0)
      → (sooner S y.guest y.station x.guest x.station ≡ true → P (y ∷ insert S x l))
      → (sooner S y.guest y.station x.guest x.station ≡ false → P (x ∷ y ∷ l))
      → P (insert S x (y ∷ l))
  unfolding insert
  insert_cases y l P behind ahead = ⊎_elim
      (λ (t : sooner S y.guest y.station x.guest x.station ≡ true). rw t (behind t))
      (λ (t : sooner S y.guest y.station x.guest x.station ≡ false). rw t (ahead t))
      (decide (sooner S y.guest y.station x.guest x.station))

  -- what is inserted is there, with what was there
  insert_old : (i j : ℕ) (l : List Candidacy) → In i j l → In i j (insert S x l)
  unfolding insert
  insert_old i j [] h = absurd h
  insert_old i j (y ∷ l) h = insert_cases y l (In i j)
      (λ _. ⊎_elim (λ e. inl e) (λ g. inr (insert_old i j l g)) h)
      (λ _. inr h)

  insert_new : (l : List Candidacy) → In x.guest x.station (insert S x l)
  unfolding insert
  insert_new [] = inl (refl, refl)
  insert_new (y ∷ l) = insert_cases y l (In x.guest x.station) (λ _. inr (insert_new l)) (λ _. inl (refl, refl))

  insert_only :
      (i j : ℕ) (l : List Candidacy) → In i j (insert S x l) → ((i ≡ x.guest) × (j ≡ x.station)) ⊎ In i j l
  unfolding insert
  insert_only i j [] = λ h. h
  insert_only i j (y ∷ l) = insert_cases y l
      (λ r. In i j r → ((i ≡ x.guest) × (j ≡ x.station)) ⊎ In i j (y ∷ l))
      (λ _ h. ⊎_elim
      (λ e. inr (inl e))
      (λ g. ⊎_elim (λ e. inl e) (λ e. inr (inr e)) (insert_only i j l g))
      h)
      (λ _ h. h)

  insert_sorted :
      (l : List Candidacy)
      → ((k s : ℕ) → In k s l → sooner S k s x.guest x.station ≡ false
      → sooner S x.guest x.station k s ≡ true)
      → Sorted S l → Sorted S (insert S x l)
  unfolding insert
  insert_sorted [] c a = ((λ k s h. absurd h), tt)
  insert_sorted (y ∷ l) c a = insert_cases y l (Sorted S)
      (λ t. (
        (λ k s h. ⊎_elim (λ e. rw (e.0, e.1) t) (λ g. a.0 k s g) (insert_only k s l h)),
        insert_sorted l (λ k s h. c k s (inr h)) a.1,
      ))
      (λ t. let f = c y.guest y.station (inl (refl, refl)) t in (
        (λ k s h. ⊎_elim
            (λ e. rw (e.0, e.1) f)
            (λ g. sooner_trans S _ _ y.guest y.station _ _ f (a.0 k s g))
            h),
        a,
      ))

module _ (S : Screened) (i : ℕ) where
  guest_old : (k s m : ℕ) (l : List Candidacy) → In k s l → In k s (insert_guest S i m l)
  unfolding insert_guest insert_where
  guest_old k s zero l h = h
  guest_old k s (suc j) l h = go (S.candidate i j) (guest_old k s j l h)
    where
      go : (b : Bool) → In k s (insert_guest S i j l)
          → In k s (insert_where S b (candidacy i j) (insert_guest S i j l))
      go true g = insert_old S (candidacy i j) k s _ g
      go false g = g

  guest_new : (s m : ℕ) (l : List Candidacy) → s < m → S.candidate i s ≡ true → In i s (insert_guest S i m l)
  unfolding insert_guest insert_where
  guest_new s zero l h c = absurd (not-suc-le-zero h)
  guest_new s (suc j) l h c = ⊎_elim
      (λ (e : s ≡ j). rw (e, rw e at c) (insert_new S (candidacy i j) (insert_guest S i j l)))
      (λ (q : s < j). go (S.candidate i j) (guest_new s j l q c))
      (eq-or-lt_of_le (le_of_suc-le-suc h))
    where
      go : (b : Bool) → In i s (insert_guest S i j l)
          → In i s (insert_where S b (candidacy i j) (insert_guest S i j l))
      go true g = insert_old S (candidacy i j) i s _ g
      go false g = g

  guest_only : (k s m : ℕ) (l : List Candidacy) → In k s (insert_guest S i m l)
      → ((k ≡ i) × (s < m) × (S.candidate k s ≡ true)) ⊎ In k s l
  unfolding insert_guest insert_where
  guest_only k s zero l h = inr h
  guest_only k s (suc j) l h = go (S.candidate i j) refl (λ g. ⊎_elim
      (λ e. inl (e.0, up e.1, e.2)) (λ e. inr e) (guest_only k s j l g)) h
    where
      go : (b : Bool) → S.candidate i j ≡ b
          → (In k s (insert_guest S i j l) → ((k ≡ i) × (s < suc j) × (S.candidate k s ≡ true)) ⊎ In k s l)
          → In k s (insert_where S b (candidacy i j) (insert_guest S i j l))
          → ((k ≡ i) × (s < suc j) × (S.candidate k s ≡ true)) ⊎ In k s l
      go true c earlier g = ⊎_elim
          (λ e. inl (e.0, rw e.1 here, rw (e.0, e.1) c)) earlier (insert_only S (candidacy i j) k s _ g)
      go false c earlier g = earlier g

  guest_sorted :
      Keys S.key S.guest_count → i < S.guest_count → (m : ℕ) (l : List Candidacy)
      → ((k s : ℕ) → In k s l → k < i) → Sorted S l → Sorted S (insert_guest S i m l)
  unfolding insert_guest insert_where
  guest_sorted K li zero l b a = a
  guest_sorted K li (suc j) l b a = go (S.candidate i j) (guest_sorted K li j l b a)
    where
      later : (k s : ℕ) → In k s (insert_guest S i j l) → sooner S k s i j ≡ false → sooner S i j k s ≡ true
      later k s h = ⊎_elim
          (λ e. let n : s < j = e.1 in sooner_or S K k s i j (rw e.0 li) li (λ p q. omega arith))
          (λ g. let n : k < i = b k s g in sooner_or S K k s i j (omega arith) li (λ p q. omega arith))
          (guest_only k s j l h)

      go : (b : Bool) → Sorted S (insert_guest S i j l)
          → Sorted S (insert_where S b (candidacy i j) (insert_guest S i j l))
      go true g = insert_sorted S (candidacy i j) _ later g
      go false g = g

module _ (S : Screened) where
  below_only : (k s n : ℕ) → In k s (candidacies_below S n)
      → (k < n) × (s < S.station_count) × (S.candidate k s ≡ true)
  unfolding candidacies_below
  below_only k s zero h = absurd h
  below_only k s (suc i) h = ⊎_elim
      (λ e. (omega arith, e.1, e.2))
      (λ g. let r = below_only k s i g in (omega arith, r.1, r.2))
      (guest_only S i k s S.station_count _ h)

  below_all : (k s n : ℕ) → k < n → s < S.station_count → S.candidate k s ≡ true → In k s (candidacies_below S n)
  unfolding candidacies_below
  below_all k s zero lk ls c = absurd (not-suc-le-zero lk)
  below_all k s (suc i) lk ls c = ⊎_elim
      (λ (e : k ≡ i). rw e (guest_new S i s S.station_count _ ls (rw e at c)))
      (λ (q : k < i). guest_old S i k s S.station_count _ (below_all k s i q ls c))
      (eq-or-lt_of_le (le_of_suc-le-suc lk))

  below_sorted : Keys S.key S.guest_count → (n : ℕ) → n ≤ S.guest_count → Sorted S (candidacies_below S n)
  unfolding candidacies_below
  below_sorted K zero h = tt
  below_sorted K (suc i) h = guest_sorted S i K h S.station_count _ (λ k s g. (below_only k s i g).0)
      (below_sorted K i (omega arith))

  pub candidacies_only :
      (k s : ℕ) → In k s (candidacies S) → (k < S.guest_count) × (s < S.station_count) × (S.candidate k s ≡ true)
  unfolding candidacies
  candidacies_only k s h = below_only k s S.guest_count h

  pub candidacies_all :
      (k s : ℕ) → k < S.guest_count → s < S.station_count → S.candidate k s ≡ true → In k s (candidacies S)
  unfolding candidacies
  candidacies_all k s = below_all k s S.guest_count

  pub candidacies_sorted : Keys S.key S.guest_count → Sorted S (candidacies S)
  unfolding candidacies
  candidacies_sorted K = below_sorted K S.guest_count (le_refl _)
