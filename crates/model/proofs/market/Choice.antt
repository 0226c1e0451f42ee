-- Laws of `best`: what is chosen is on offer, nothing on offer is better, and of equals the lowest is chosen.
use Prim.Native.Nat.{ℕ, zero, suc, ◌≤◌, ◌<◌}
use mathlib.Core.Bool.{Bool, true, false}
use mathlib.Core.Logic.{⊎_elim}
use mathlib.Core.Path.{◌≡◌, refl, sym, ◌∙◌}
use native.Mathlib.Nat.{le_refl, eq-or-lt_of_le, le_of_suc-le-suc, not-suc-le-zero}
use native.Mathlib.Omega.{arith}
use Rattle.model.specs.Counting.{◌<?◌}
use Rattle.model.specs.market.Mechanism.{best, better}
use Rattle.model.proofs.Tests.{decide, clash, lt_yes, lt_no}
use Rattle.model.proofs.Counting.{up, here}

-- what is chosen holds, and is one of the m
pub best_holds : (m : ℕ) (h : ℕ → Bool) (g : ℕ → ℕ) (j : ℕ) → best m h g ≡ suc j → (j < m) × (h j ≡ true)
unfolding best better
best_holds zero h g j e = absurd (let z : ◌≡◌ {A = ℕ} 0 (suc j) = e in omega arith)
best_holds (suc m) h g j e = go (h m) refl (best m h g) refl e (best_holds m h g j)
  where
    go :
        (b : Bool) → h m ≡ b → (r : ℕ) → best m h g ≡ r → better b g m r ≡ suc j → (r ≡ suc j → (j < m) × (h j ≡ true))
        → (j < suc m) × (h j ≡ true)
    go false q r p e ih = (up (ih e).0, (ih e).1)
    go true q zero p e ih = let s : m ≡ j = omega arith in (omega arith, rw s at q)
    go true q (suc k) p e ih = ⊎_elim
        (λ (t : (g k <? g m) ≡ true). let s : m ≡ j = omega (arith, (rw t at e)) in (omega arith, rw s at q))
        (λ (t : (g k <? g m) ≡ false). let i = ih (rw t at e) in (up i.0, i.1))
        (decide (g k <? g m))

-- a step keeps what was as good, and takes what is better
step :
    (b : Bool) (g : ℕ → ℕ) (m k : ℕ) → (x : ℕ) × (better b g m (suc k) ≡ suc x) × (g k ≤ g x) × (b ≡ true → g m ≤ g x)
unfolding better
step false g m k = (k, refl, le_refl (g k), λ e. absurd (clash e refl))
step true g m k = ⊎_elim
    (λ (t : (g k <? g m) ≡ true). (m, rw t, omega (arith, lt_yes), λ e. le_refl (g m)))
    (λ (t : (g k <? g m) ≡ false). (k, rw t, le_refl (g k), λ e. lt_no (g k) (g m) t))
    (decide (g k <? g m))

start : (b : Bool) (g : ℕ → ℕ) (m r : ℕ) → b ≡ true → (x : ℕ) × (better b g m r ≡ suc x) × (g m ≤ g x)
unfolding better
start false g m r e = absurd (clash e refl)
start true g m zero e = (m, refl, le_refl (g m))
start true g m (suc k) e = let s = step true g m k in (s.0, s.1, s.3 refl)

-- where one holds, something at least as good is chosen
pub best_best :
    (m : ℕ) (h : ℕ → Bool) (g : ℕ → ℕ) (j : ℕ) → j < m → h j ≡ true → (k : ℕ) × (best m h g ≡ suc k) × (g j ≤ g k)
unfolding best
best_best zero h g j l p = absurd (not-suc-le-zero l)
best_best (suc m) h g j l p = ⊎_elim
    (λ (e : j ≡ m). rw e (start (h m) g m (best m h g) (rw e at p)))
    (λ (q : j < m). let i = best_best m h g j q p in
    let s = step (h m) g m i.0 in rw i.1 (s.0, s.1, omega arith))
    (eq-or-lt_of_le (le_of_suc-le-suc l))

-- of those as good, the lowest is chosen
pub best_lowest : (m : ℕ) (h : ℕ → Bool) (g : ℕ → ℕ) (j k : ℕ) → best m h g ≡ suc j → k < j → h k ≡ true → g k < g j
unfolding best better
best_lowest zero h g j k e l p = absurd (let z : ◌≡◌ {A = ℕ} 0 (suc j) = e in omega arith)
best_lowest (suc m) h g j k e l p = go (h m) refl (best m h g) refl e (λ q. best_lowest m h g j k q l p)
  where
    go : (b : Bool) → h m ≡ b → (r : ℕ) → best m h g ≡ r → better b g m r ≡ suc j → (r ≡ suc j → g k < g j) → g k < g j
    go false q r s e ih = ih e
    go true q zero s e ih =
        let c = best_best m h g k (let lk : k < m = omega arith in lk) p in
        absurd (let z : ◌≡◌ {A = ℕ} 0 (suc c.0) = sym s ∙ c.1 in omega arith)
    go true q (suc r) s e ih = ⊎_elim
        (λ (t : (g r <? g m) ≡ true).
        let j_is : m ≡ j = omega (arith, (rw t at e)) in
        let c = best_best m h g k (let lk : k < m = omega arith in lk) p in
        let r_is : c.0 ≡ r = let z : suc c.0 ≡ suc r = sym c.1 ∙ s in omega arith in
        rw (← j_is) (omega (arith, rw r_is at c.2, lt_yes (g r) (g m) t)))
        (λ (t : (g r <? g m) ≡ false). ih (rw t at e))
        (decide (g r <? g m))

-- nothing is chosen where nothing is on offer
pub best_none : (m : ℕ) (h : ℕ → Bool) (g : ℕ → ℕ) → best m h g ≡ 0 → (j : ℕ) → j < m → h j ≡ false
best_none m h g e j l = ⊎_elim
    (λ (p : h j ≡ true). absurd
    (let c = best_best m h g j l p in let z : ◌≡◌ {A = ℕ} 0 (suc c.0) = sym e ∙ c.1 in omega arith))
    (λ p. p)
    (decide (h j))

pub best_nothing : (m : ℕ) (h : ℕ → Bool) (g : ℕ → ℕ) → ((j : ℕ) → j < m → h j ≡ false) → best m h g ≡ 0
best_nothing m h g none = go (best m h g) refl
  where
    go : (r : ℕ) → best m h g ≡ r → r ≡ 0
    go zero e = refl
    go (suc j) e = let (l, p) = best_holds m h g j e in absurd (clash p (none j l))

-- it depends on what holds below m, and on the values of those
pub best_cong :
    (m : ℕ) (h h' : ℕ → Bool) (g g' : ℕ → ℕ) → ((k : ℕ) → k < m → h k ≡ h' k)
    → ((k : ℕ) → k < m → h' k ≡ true → g k ≡ g' k) → best m h g ≡ best m h' g'
unfolding best better
best_cong zero h h' g g' p q = refl
best_cong (suc m) h h' g g' p q = rw (p m here, best_cong m h h' g g' (λ k l. p k (up l)) (λ k l. q k (up l)))
    (same (h' m) refl (best m h' g') (λ k e. let (l, t) = best_holds m h' g' k e in q k (up l) t))
  where
    same : (b : Bool) → h' m ≡ b → (r : ℕ) → ((k : ℕ) → r ≡ suc k → g k ≡ g' k) → better b g m r ≡ better b g' m r
    same false e r w = refl
    same true e zero w = refl
    same true e (suc k) w = rw (w k refl, q m here e)
