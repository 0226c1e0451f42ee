-- The fast tests against a station's queue: the critical total by counting, and who is a provisional winner
-- by the critical total.
use Prim.Native.Nat.{ℕ, ◌+◌, ◌≤◌, ◌<◌}
use mathlib.Core.Bool.{Bool, true, false}
use mathlib.Core.List.{List}
use mathlib.Core.Logic.{inl, ⊎_elim}
use mathlib.Core.Path.{◌≡◌, refl, sym, ap, ◌∙◌}
use native.Mathlib.Nat.{le_refl, le_antisymm, eq-or-lt_of_le}
use native.Mathlib.Omega.{arith}
use lib.ListN.{get_or, length}
use Rattle.model.specs.Counting.{◌<?◌, ◌=?◌, ◌and◌, ◌or◌, only, count}
use Rattle.model.specs.market.Market.{Queue, before, rank, provisional, critical}
use Rattle.model.specs.claims.Meaning.{CriticalIsFirstOut}
use Rattle.model.proofs.Tests.{decide, both, first, second, and_false, lt_yes, is_lt, not_lt, is_eq, not_eq, lt_or_le}
use Rattle.model.proofs.Tests.{eq_or_ne}
use Rattle.model.proofs.Counting.{sum_cong, sum_add, count_mono, count_strict}
use Rattle.model.proofs.market.Queues.{Distinct, is_before, before_self, rank_taken, is_first_out, before_le}
use Rattle.model.proofs.market.Queues.{critical_is_first_out}
use Rattle.allocation.specs.Ties.{ties_below, TieBound}
use Rattle.allocation.specs.Selection.{above, LeastFew}
use Rattle.allocation.specs.Offers.{won_by}

-- xs are the queue's totals, 0 for whoever is no candidate; a candidate's total is above 0; keys
-- are the guests' tickets, no two the same
pub record Shows (Q : Queue) (xs tickets : List ℕ) : Type 0 where
  pub long : length xs ≡ Q.guest_count
  pub some : (k : ℕ) → k < Q.guest_count → Q.candidate k ≡ true → get_or xs k 0 ≡ Q.total k
  pub none : (k : ℕ) → k < Q.guest_count → Q.candidate k ≡ false → get_or xs k 0 ≡ 0
  pub real : (k : ℕ) → k < Q.guest_count → Q.candidate k ≡ true → 0 < Q.total k
  pub ticket : (k : ℕ) → Q.key k ≡ get_or tickets k 0
  pub distinct : Distinct Q

-- one guest k against i, whose total is t: it stands before i by its total, or by its ticket
one : (c : Bool) (x v t p q : ℕ) → 0 < t → (c ≡ true → x ≡ v) → (c ≡ false → x ≡ 0)
    → only (c and (t <? v or (t =? v and p <? q))) 1 ≡ only (t <? x) 1 + only (x =? t and p <? q) 1
unfolding only ◌and◌ ◌or◌
one false x v t p q z a b = rw (b refl, not_lt t 0 (omega arith), not_eq 0 t (λ e. omega arith)) refl
one true x v t p q z a b = rw (a refl) (⊎_elim
    (λ (l : t < v). rw (is_lt t v l, not_eq v t (λ e. omega arith)) refl)
    (λ (l : v ≤ t). ⊎_elim
    (λ (e : v ≡ t). rw (e, not_lt t t (le_refl t), is_eq t t refl) (omega arith))
    (λ (l : v < t). rw (not_lt t v (omega arith), not_eq t v (λ e. omega arith), not_eq v t (λ e. omega arith)) refl)
    (eq-or-lt_of_le l))
    (lt_or_le t v))

module _ (Q : Queue) (xs tickets : List ℕ) (S : Shows Q xs tickets) where
  is_candidate : (k : ℕ) → k < Q.guest_count → 0 < get_or xs k 0 → Q.candidate k ≡ true
  is_candidate k lk p =
      ⊎_elim (λ e. e) (λ (e : Q.candidate k ≡ false). absurd (omega (arith, S.none k lk e))) (decide (Q.candidate k))

  counted : (u : ℕ) → above xs u ≡ count Q.guest_count (λ k. u <? get_or xs k 0)
  unfolding above
  counted u = ap (λ n. count n (λ k. u <? get_or xs k 0)) S.long

  -- fewer stand before i than there are above whatever is below its total
  over_rank : (i u : ℕ) → i < Q.guest_count → Q.candidate i ≡ true → u < Q.total i → rank Q i < above xs u
  unfolding rank
  over_rank i u li c l = rw (counted u) (count_strict Q.guest_count _ _
      (λ k lk p. is_lt _ _ (omega (arith, before_le Q k i (second _ _ p), S.some k lk (first _ _ p))))
      i li (ap (λ x. Q.candidate i and x) (before_self Q i) ∙ and_false (Q.candidate i))
      (is_lt _ _ (omega (arith, S.some i li c))))

  -- whoever is above i's total stands before i
  under_rank : (i : ℕ) → above xs (Q.total i) ≤ rank Q i
  unfolding rank
  under_rank i = rw (counted (Q.total i)) (count_mono Q.guest_count _ _ (λ k lk p.
      let q : Q.total i < get_or xs k 0 = lt_yes _ _ p in
      let c = is_candidate k lk (omega arith) in
      both c (is_before Q k i (inl (omega (arith, S.some k lk c))))))

  candidates : above xs 0 ≡ count Q.guest_count Q.candidate
  candidates = le_antisymm
      (rw (counted 0) (count_mono Q.guest_count _ _ (λ k lk p. is_candidate k lk (lt_yes _ _ p))))
      (rw (counted 0)
      (count_mono Q.guest_count _ _ (λ k lk c. is_lt _ _ (omega (arith, S.some k lk c, S.real k lk c)))))

  -- the critical total is the least number with no more totals above it than the bays
  pub critical_is : (t : ℕ) → LeastFew xs Q.bays t → t ≡ critical Q
  critical_is t few = ⊎_elim
      (λ (m : Q.bays < count Q.guest_count Q.candidate). go (rank_taken Q S.distinct Q.bays m))
      (λ (m : count Q.guest_count Q.candidate ≤ Q.bays). ⊎_elim
      (λ (p : 0 < t). absurd (omega (arith, few.least 0 p, candidates)))
      (λ (p : t ≤ 0). omega (arith, reads.zero_if_none m))
      (lt_or_le 0 t))
      (lt_or_le Q.bays (count Q.guest_count Q.candidate))
    where
      reads : CriticalIsFirstOut Q
      reads = critical_is_first_out Q S.distinct S.real

      go : ((k : ℕ) × (k < Q.guest_count) × (Q.candidate k ≡ true) × (rank Q k ≡ Q.bays)) → t ≡ critical Q
      go (k, lk, c, r) = le_antisymm
          (⊎_elim (λ (l : Q.total k < t). absurd (omega (arith, few.least (Q.total k) l, under_rank k))) (λ l. l)
          (lt_or_le (Q.total k) t))
          (⊎_elim (λ (l : t < Q.total k). absurd (omega (arith, few.few, over_rank k t lk c l)))
          (λ l. l) (lt_or_le t (Q.total k)))
          ∙ sym (reads.first_out_lem k lk (is_first_out Q k c r))

  -- at t above 0, the rank is the count above t and the count of those at t with a lower ticket
  pub rank_tied :
      (i t : ℕ) → 0 < t → Q.total i ≡ t → rank Q i ≡ above xs t + ties_below xs tickets t (get_or tickets i 0)
  unfolding rank before ties_below count
  rank_tied i t p e = rw (counted t, e, S.long)
      (sum_cong Q.guest_count _
      (λ k. only (t <? get_or xs k 0) 1 + only (get_or xs k 0 =? t and get_or tickets k 0 <? get_or tickets i 0) 1)
      (λ k lk. rw (S.ticket k, S.ticket i)
      (one (Q.candidate k) (get_or xs k 0) (Q.total k) t (get_or tickets k 0) (get_or tickets i 0) p (S.some k lk)
      (S.none k lk)))
      ∙ sum_add Q.guest_count _ _)

  -- who wins, by the critical total and a bound on the tickets of those at it
  pub provisional_is :
      (i t e : ℕ) → i < Q.guest_count → LeastFew xs Q.bays t → TieBound xs tickets t (above xs t) Q.bays e
      → won_by (get_or xs i 0) t (get_or tickets i 0) e ≡ provisional Q i
  unfolding provisional won_by ◌and◌ ◌or◌
  provisional_is i t e li few tied = ⊎_elim
      (λ (c : Q.candidate i ≡ true). rw (S.some i li c, c) (⊎_elim
      (λ (l : t < Q.total i). rw
      (is_lt t (Q.total i) l, is_lt (rank Q i) Q.bays (omega (arith, few.few, over_rank i t li c l))) refl)
      (λ (l : Q.total i ≤ t). ⊎_elim
      (λ (q : Q.total i ≡ t).
      let p : 0 < t = omega (arith, S.real i li c) in
      rw (not_lt t (Q.total i) l, is_eq (Q.total i) t q, rank_tied i t p q)
      (tied.bound p i (omega (arith, S.long)) (S.some i li c ∙ q)))
      (λ (q : Q.total i < t). rw (
        not_lt t (Q.total i) l,
        not_eq (Q.total i) t (omega arith),
        not_lt (rank Q i) Q.bays (omega (arith, few.least (Q.total i) q, under_rank i)),
      ) refl)
      (eq-or-lt_of_le l))
      (lt_or_le t (Q.total i))))
      (λ (c : Q.candidate i ≡ false). rw (S.none i li c, c, not_lt t 0 (omega arith)) (⊎_elim
      (λ (z : 0 ≡ t). rw (is_eq 0 t z, not_lt (get_or tickets i 0) e (omega (arith, tied.none (sym z)))) refl)
      (λ (n : 0 ≡ t → ⊥). rw (not_eq 0 t n) refl)
      (eq_or_ne 0 t)))
      (decide (Q.candidate i))
