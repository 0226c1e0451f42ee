-- The order of all candidacies: it is strict, and total where no two guests have one key.
use Prim.Native.Nat.{ℕ, ◌≤◌, ◌<◌}
use mathlib.Core.Bool.{true, false}
use mathlib.Core.Logic.{◌⊎◌, inl, inr, ⊎_elim}
use mathlib.Core.Path.{◌≡◌, sym}
use native.Mathlib.Nat.{eq-or-lt_of_le}
use native.Mathlib.Omega.{arith}
use Rattle.model.specs.market.Market.{Screened, queue, before}
use Rattle.model.specs.market.Stable.{sooner}
use Rattle.model.proofs.Tests.{clash, both, first, second, or_cases, or_left, or_right, lt_yes, eq_yes}
use Rattle.model.proofs.Tests.{is_lt, is_eq, lt_or_le}
use Rattle.model.proofs.market.Queues.{Ahead, is_before}
use Rattle.model.proofs.market.Truthful.{Keys}

-- the order as a fact
abbrev Sooner : Screened → (i j k l : ℕ) → Type 0
Sooner S i j k l = (S.total k l < S.total i j)
    ⊎ (((S.total k l ≡ S.total i j) × (S.key i < S.key k))
    ⊎ ((S.total k l ≡ S.total i j) × (S.key i ≡ S.key k) × (j < l)))

sooner_fact : (S : Screened) (i j k l : ℕ) → sooner S i j k l ≡ true → Sooner S i j k l
unfolding sooner
sooner_fact S i j k l e = ⊎_elim
    (λ t. inl (lt_yes _ _ t))
    (λ t. inr (⊎_elim
    (λ u. inl (eq_yes _ _ (first _ _ t), lt_yes _ _ u))
    (λ u. inr (eq_yes _ _ (first _ _ t), eq_yes _ _ (first _ _ u), lt_yes _ _ (second _ _ u)))
    (or_cases _ _ (second _ _ t))))
    (or_cases _ _ e)

is_sooner : (S : Screened) (i j k l : ℕ) → Sooner S i j k l → sooner S i j k l ≡ true
unfolding sooner
is_sooner S i j k l (inl t) = or_left _ _ (is_lt _ _ t)
is_sooner S i j k l (inr (inl t)) = or_right _ _ (both (is_eq _ _ t.0) (or_left _ _ (is_lt _ _ t.1)))
is_sooner S i j k l (inr (inr t)) =
    or_right _ _ (both (is_eq _ _ t.0) (or_right _ _ (both (is_eq _ _ t.1) (is_lt _ _ t.2))))

-- totals fall; of equal totals the keys rise, and of equal keys the stations
pub sooner_total : (S : Screened) (i j k l : ℕ) → sooner S i j k l ≡ true → S.total k l ≤ S.total i j
sooner_total S i j k l e = go (sooner_fact S i j k l e)
  where
    go : Sooner S i j k l → S.total k l ≤ S.total i j
    go (inl x) = omega arith
    go (inr (inl x)) = omega arith
    go (inr (inr x)) = omega arith

pub sooner_key :
    (S : Screened) (i j k l : ℕ) → sooner S i j k l ≡ true → S.total k l ≡ S.total i j → S.key i ≤ S.key k
sooner_key S i j k l e t = go (sooner_fact S i j k l e)
  where
    go : Sooner S i j k l → S.key i ≤ S.key k
    go (inl x) = absurd (omega arith)
    go (inr (inl x)) = omega arith
    go (inr (inr x)) = omega arith

pub sooner_station :
    (S : Screened) (i j k l : ℕ) → sooner S i j k l ≡ true → S.total k l ≡ S.total i j → S.key i ≡ S.key k → j < l
sooner_station S i j k l e t q = go (sooner_fact S i j k l e)
  where
    go : Sooner S i j k l → j < l
    go (inl x) = absurd (omega arith)
    go (inr (inl x)) = absurd (omega arith)
    go (inr (inr x)) = x.2

pub sooner_trans :
    (S : Screened) (a a' b b' c c' : ℕ) → sooner S a a' b b' ≡ true → sooner S b b' c c' ≡ true
    → sooner S a a' c c' ≡ true
sooner_trans S a a' b b' c c' p q = is_sooner S a a' c c' (go (sooner_fact S a a' b b' p) (sooner_fact S b b' c c' q))
  where
    go : Sooner S a a' b b' → Sooner S b b' c c' → Sooner S a a' c c'
    go (inl x) (inl y) = inl (omega arith)
    go (inl x) (inr (inl y)) = inl (omega arith)
    go (inl x) (inr (inr y)) = inl (omega arith)
    go (inr (inl x)) (inl y) = inl (omega arith)
    go (inr (inl x)) (inr (inl y)) = inr (inl (omega arith))
    go (inr (inl x)) (inr (inr y)) = inr (inl (omega arith))
    go (inr (inr x)) (inl y) = inl (omega arith)
    go (inr (inr x)) (inr (inl y)) = inr (inl (omega arith))
    go (inr (inr x)) (inr (inr y)) = inr (inr (omega arith))

pub sooner_self : (S : Screened) (i j : ℕ) → sooner S i j i j ≡ true → ⊥
sooner_self S i j e = go (sooner_fact S i j i j e)
  where
    go : Sooner S i j i j → ⊥
    go (inl x) = omega arith
    go (inr (inl x)) = omega arith
    go (inr (inr x)) = omega arith

pub sooner_both : (S : Screened) (i j k l : ℕ) → sooner S i j k l ≡ true → sooner S k l i j ≡ true → ⊥
sooner_both S i j k l p q = sooner_self S i j (sooner_trans S i j k l i j p q)

-- of two candidacies one is the sooner
pub sooner_or : (S : Screened) → Keys S.key S.guest_count → (i j k l : ℕ) → i < S.guest_count → k < S.guest_count
    → (i ≡ k → j ≡ l → ⊥) → sooner S i j k l ≡ false → sooner S k l i j ≡ true
sooner_or S K i j k l li lk n e =
    is_sooner S k l i j (go (lt_or_le (S.total i j) (S.total k l)) (lt_or_le (S.key k) (S.key i)) (lt_or_le l j))
  where
    neither : Sooner S i j k l → ⊥
    neither a = clash (is_sooner S i j k l a) e

    equal : S.total k l ≤ S.total i j → S.total i j ≡ S.total k l
    equal g = ⊎_elim (λ p. sym p) (λ q. absurd (neither (inl q))) (eq-or-lt_of_le g)

    same_key : S.total k l ≤ S.total i j → S.key i ≤ S.key k → S.key i ≡ S.key k
    same_key g h = ⊎_elim (λ p. p) (λ q. absurd (neither (inr (inl (sym (equal g), q))))) (eq-or-lt_of_le h)

    go : (S.total i j < S.total k l) ⊎ (S.total k l ≤ S.total i j)
        → (S.key k < S.key i) ⊎ (S.key i ≤ S.key k) → (l < j) ⊎ (j ≤ l) → Sooner S k l i j
    go (inl t) u v = inl t
    go (inr t) (inl u) v = inr (inl (equal t, u))
    go (inr t) (inr u) (inl v) = inr (inr (equal t, sym (same_key t u), v))
    go (inr t) (inr u) (inr v) = absurd (⊎_elim
        (λ (p : j ≡ l). n (K i k li lk (same_key t u)) p)
        (λ (q : j < l). neither (inr (inr (sym (equal t), same_key t u, q))))
        (eq-or-lt_of_le v))

-- at one station it is the order of the queue
pub sooner_before : (S : Screened) (k i j : ℕ) → sooner S k j i j ≡ true → before (queue S j) k i ≡ true
unfolding queue
sooner_before S k i j e = is_before (queue S j) k i (go (sooner_fact S k j i j e))
  where
    go : Sooner S k j i j → Ahead (queue S j) k i
    go (inl x) = inl x
    go (inr (inl x)) = inr x
    go (inr (inr x)) = absurd (omega arith)
