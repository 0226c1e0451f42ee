-- Counts of those at the critical total, and the bound on their tickets.
use Prim.Native.Nat.{ℕ, ◌+◌, ◌-◌, ◌≤◌, ◌<◌}
use mathlib.Core.Bool.{true, ◌&&◌}
use mathlib.Core.List.{List}
use mathlib.Core.Logic.{◌⊎◌, inl, inr, ⊎_elim}
use mathlib.Core.Path.{◌≡◌, refl, sym, ap, ◌∙◌}
use native.Mathlib.Nat.{le_refl, eq-or-lt_of_le}
use native.Mathlib.Omega.{arith}
use lib.ListN.{get_or, length}
use lib.Dec.{eqb, ltb}
use Rattle.model.specs.Counting.{◌<?◌, ◌=?◌, ◌and◌}
use Rattle.model.specs.claims.Meaning.{Differ}
use Rattle.model.proofs.Tests.{both, first, second, and_false, same_test, lt_yes, is_lt, not_lt, eq_yes}
use Rattle.model.proofs.Tests.{is_eq, not_eq, lt_or_le}
use Rattle.model.proofs.Counting.{count_mono, count_strict, count_or, count_none, count_one, count_cong}
use Rattle.model.proofs.Counting.{count_start, count_first, count_most, count_yes, count_not}
use Rattle.model.proofs.market.Acceptance.{same_place}
use Rattle.checks.specs.Tickets.{rising}
use Rattle.checks.proofs.tickets.Tickets.{rises}
use Rattle.allocation.specs.Selection.{above, Selected}
use Rattle.allocation.specs.Ties.{ties, ties_below, TieBound}

-- ---- those at t among the first i

-- the code's test of a total and a ticket
pub tied_is : (x t k e : ℕ) → (eqb x t && ltb k e) ≡ (x =? t and k <? e)
unfolding ◌and◌ ◌=?◌ ◌<?◌
tied_is x t k e = refl

pub ties_none : (l : List ℕ) (t : ℕ) → 0 ≡ ties l t 0
unfolding ties
ties_none l t = sym (count_start (λ k. get_or l k 0 =? t))

-- the next one is at t, or not
pub ties_more :
    (l : List ℕ) (t i : ℕ) {s r : ℕ} → s ≡ ties l t i
    → ((get_or l i 0 ≡ t) × (r ≡ s + 1)) ⊎ ((get_or l i 0 ≡ t → ⊥) × (r ≡ s)) → r ≡ ties l t (i + 1)
unfolding ties
ties_more l t i e h = ⊎_elim
    (λ (q, p). omega (arith, count_yes i (λ k. get_or l k 0 =? t) (is_eq _ _ q)))
    (λ (q, p). omega (arith, count_not i (λ k. get_or l k 0 =? t) (not_eq _ _ q)))
    h

pub ties_most : (l : List ℕ) (t i : ℕ) → ties l t i ≤ i
unfolding ties
ties_most l t i = count_most i _

-- where fewer are met than there are in all, there is a next one
pub ties_go_on :
    (l : List ℕ) (t : ℕ) {i s places : ℕ} → i ≤ length l → s ≡ ties l t i → s ≤ places → places < ties l t (length l)
    → i < length l
ties_go_on l t {i} w q r h = ⊎_elim
    (λ (e : i ≡ length l). absurd (let z : ties l t i ≡ ties l t (length l) = ap (ties l t) e in omega arith))
    (λ q. q)
    (eq-or-lt_of_le w)

-- more than b have at least the least total that few are above: a above it, and those at it
pub crowded :
    (l : List ℕ) {b t a : ℕ} → Selected l b t a → 0 < t → b < a + ties l t (length l)
unfolding above ties
crowded l {b} {t} {a} s p =
    omega (
      arith,
      s.least_few.least (t - 1) (omega arith),
      s.counted,
      count_or (length l) (λ k. t - 1 <? get_or l k 0) (λ k. t <? get_or l k 0) (λ k. get_or l k 0 =? t)
          (λ k _ h. ⊎_elim
          (λ (e : t ≡ get_or l k 0). inr (is_eq _ _ (sym e)))
          (λ (q : t < get_or l k 0). inl (is_lt _ _ q))
          (eq-or-lt_of_le
          (let z : t - 1 < get_or l k 0 = lt_yes _ _ h in let y : t ≤ get_or l k 0 = omega arith in y))),
    )

-- ---- those at t with a ticket below x

pub ties_below_zero : (l tickets : List ℕ) (t : ℕ) → ties_below l tickets t 0 ≡ 0
unfolding ties_below
ties_below_zero l tickets t =
    count_none (length l) _ (λ k _ p. let z : get_or tickets k 0 < 0 = lt_yes _ _ (second _ _ p) in omega arith)

ties_below_rise : (l tickets : List ℕ) (t x y : ℕ) → x ≤ y → ties_below l tickets t x ≤ ties_below l tickets t y
unfolding ties_below
ties_below_rise l tickets t x y h = count_mono (length l) _ _
    (λ k _ p. both (first _ _ p) (is_lt _ _ (omega (arith, lt_yes (get_or tickets k 0) x (second _ _ p)))))

-- whoever is at t is counted below every higher ticket than its own
ties_below_strict :
    (l tickets : List ℕ) (t x i : ℕ) → i < length l → get_or l i 0 ≡ t → get_or tickets i 0 < x
    → ties_below l tickets t (get_or tickets i 0) < ties_below l tickets t x
unfolding ties_below
ties_below_strict l tickets t x i li e h = count_strict (length l) _ _
    (λ k _ p. both (first _ _ p)
    (is_lt _ _ (omega (arith, lt_yes (get_or tickets k 0) (get_or tickets i 0) (second _ _ p)))))
    i li (ap (λ b. get_or l i 0 =? t and b) (not_lt _ _ (le_refl _)) ∙ and_false _) (both (is_eq _ _ e) (is_lt _ _ h))

-- one ticket more is one guest more at most
pub ties_below_next :
    (l tickets : List ℕ) (t x : ℕ) → length tickets ≡ length l → Differ tickets
    → ties_below l tickets t (x + 1) ≤ ties_below l tickets t x + 1
unfolding ties_below
ties_below_next l tickets t x n d =
    omega (
      arith,
      count_or (length l) (λ k. get_or l k 0 =? t and get_or tickets k 0 <? x + 1)
          (λ k. get_or l k 0 =? t and get_or tickets k 0 <? x) (λ k. get_or tickets k 0 =? x) (λ k _ p. ⊎_elim
          (λ (e : get_or tickets k 0 ≡ x). inr (is_eq _ _ e))
          (λ (q : get_or tickets k 0 < x). inl (both (first _ _ p) (is_lt _ _ q)))
          (eq-or-lt_of_le
          (let z : get_or tickets k 0 < x + 1 = lt_yes _ _ (second _ _ p) in
          let y : get_or tickets k 0 ≤ x = omega arith in y))),
      count_one (length l) (λ k. get_or tickets k 0 =? x) (λ k i lk li p q.
          same_place tickets d k i (omega arith) (omega arith) (eq_yes _ _ p ∙ sym (eq_yes _ _ q))),
    )

-- below the last ticket there are all but one
pub ties_below_last :
    (l tickets : List ℕ) (t last : ℕ) → length tickets ≡ length l → Differ tickets
    → ((k : ℕ) → k < length l → get_or tickets k 0 ≤ last) → ties l t (length l) ≤ ties_below l tickets t last + 1
unfolding ties ties_below
ties_below_last l tickets t last n d most =
    omega (
      arith,
      ties_below_next l tickets t last n d,
      count_mono (length l) (λ k. get_or l k 0 =? t) (λ k. get_or l k 0 =? t and get_or tickets k 0 <? last + 1)
          (λ k lk p. both p (is_lt _ _ (omega (arith, most k lk)))),
    )

-- where tickets rise, those below the ticket at p are those before p
pub ties_below_order :
    (l tickets : List ℕ) (t p : ℕ) → length tickets ≡ length l → rising tickets ≡ true → p < length l
    → ties_below l tickets t (get_or tickets p 0) ≡ ties l t p
unfolding ties ties_below
ties_below_order l tickets t p n r lp =
    count_cong (length l) _ (λ k. get_or l k 0 =? t and k <? p)
    (λ k lk. ap (λ b. get_or l k 0 =? t and b) (same_test _ _
    (λ q. ⊎_elim (λ (a : k < p). is_lt _ _ a) (λ (a : p ≤ k). absurd (higher k lk a (lt_yes _ _ q))) (lt_or_le k p))
    (λ q. is_lt _ _ (rises tickets r k p (lt_yes _ _ q) (omega arith)))))
    ∙ count_first (λ k. get_or l k 0 =? t) (length l) p (omega arith)
  where
    higher : (k : ℕ) → k < length l → p ≤ k → get_or tickets k 0 < get_or tickets p 0 → ⊥
    higher k lk a q = ⊎_elim
        (λ (e : p ≡ k). let z : get_or tickets p 0 ≡ get_or tickets k 0 = ap (λ k. get_or tickets k 0) e in omega arith)
        (λ (b : p < k). omega (arith, rises tickets r p k b (omega arith)))
        (eq-or-lt_of_le a)

-- ---- the bound

pub no_tie : {l tickets : List ℕ} {t a b : ℕ} → t ≡ 0 → TieBound l tickets t a b 0
no_tie z = record { none = λ _. refl; bound = λ p. absurd (omega arith) }

pub no_place : {l tickets : List ℕ} {t a b : ℕ} → b ≤ a → TieBound l tickets t a b 0
no_place h = record { none = λ _. refl; bound = λ _ i _ _. not_lt _ _ (omega arith) ∙ sym (not_lt _ _ (omega arith)) }

-- a bound below which as many are as there are places left
pub bounds :
    {l tickets : List ℕ} {t a b e : ℕ} → (t ≡ 0 → ⊥) → a ≤ b → ties_below l tickets t e ≡ b - a
    → TieBound l tickets t a b e
bounds {l} {tickets} {t} {a} {b} {e} n w h = record {
  none = λ z. absurd (n z);
  bound = λ _ i li q. ⊎_elim
      (λ (p : get_or tickets i 0 < e). is_lt _ _ p
      ∙ sym (is_lt _ _ (omega (arith, ties_below_strict l tickets t e i li q p))))
      (λ (p : e ≤ get_or tickets i 0). not_lt _ _ p
      ∙ sym (not_lt _ _ (omega (arith, ties_below_rise l tickets t e (get_or tickets i 0) p))))
      (lt_or_le (get_or tickets i 0) e);
}
