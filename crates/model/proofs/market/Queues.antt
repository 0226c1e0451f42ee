-- One station's queue: who stands before whom, and the ranks of its candidates.
use Prim.Native.Nat.{ℕ, zero, suc, ◌+◌, ◌≤◌, ◌<◌}
use mathlib.Core.Bool.{true, false, not}
use mathlib.Core.Logic.{◌⊎◌, inl, inr, ⊎_elim}
use mathlib.Core.Path.{◌≡◌, sym, ap, ◌∙◌}
use native.Mathlib.Nat.{le_refl, le_trans, le_antisymm, eq-or-lt_of_le, le_of_suc-le-suc}
use native.Mathlib.Omega.{arith}
use borrow.Author.Tests.{not-true}
use Rattle.model.specs.Counting.{◌<?◌, ◌=?◌, ◌and◌, only, count}
use Rattle.model.specs.market.Market.{Queue, before, rank, provisional, first_out, critical}
use Rattle.model.specs.claims.Meaning.{RanksInOrder, CriticalIsFirstOut}
use Rattle.model.proofs.Tests.{decide, clash, both, first, second, and_false, not_not, or_cases, or_left}
use Rattle.model.proofs.Tests.{or_right, neither, only_le, le_only, lt_yes, lt_no, eq_yes, eq_no, is_lt, not_lt}
use Rattle.model.proofs.Tests.{is_eq, lt_or_le, same_test}
use Rattle.model.proofs.Counting.{count_mono, count_strict, count_or, count_none, count_one, le_greatest}
use Rattle.model.proofs.Counting.{greatest_le, search_below}

-- the order as a fact
abbrev pub Ahead : Queue → ℕ → ℕ → Type 0
Ahead Q k i = (Q.total i < Q.total k) ⊎ ((Q.total i ≡ Q.total k) × (Q.key k < Q.key i))

pub ahead : (Q : Queue) (k i : ℕ) → before Q k i ≡ true → Ahead Q k i
unfolding before
ahead Q k i e = ⊎_elim
    (λ t. inl (lt_yes _ _ t))
    (λ t. inr (eq_yes _ _ (first _ _ t), lt_yes _ _ (second _ _ t)))
    (or_cases _ _ e)

-- whoever stands before i has a total at least i's
pub before_le : (Q : Queue) (k i : ℕ) → before Q k i ≡ true → Q.total i ≤ Q.total k
before_le Q k i e = ⊎_elim (λ l. omega arith) (λ q. omega arith) (ahead Q k i e)

pub is_before : (Q : Queue) (k i : ℕ) → Ahead Q k i → before Q k i ≡ true
unfolding before
is_before Q k i (inl l) = or_left _ _ (is_lt _ _ l)
is_before Q k i (inr q) = or_right _ _ (both (is_eq _ _ q.0) (is_lt _ _ q.1))

pub before_trans : (Q : Queue) (a b c : ℕ) → before Q a b ≡ true → before Q b c ≡ true → before Q a c ≡ true
before_trans Q a b c p q = is_before Q a c (go (ahead Q a b p) (ahead Q b c q))
  where
    go : Ahead Q a b → Ahead Q b c → Ahead Q a c
    go (inl x) (inl y) = inl (omega arith)
    go (inl x) (inr y) = inl (omega arith)
    go (inr x) (inl y) = inl (omega arith)
    go (inr x) (inr y) = inr (omega arith)

pub before_self : (Q : Queue) (a : ℕ) → before Q a a ≡ false
unfolding before
before_self Q a =
    neither (not_lt _ _ (le_refl _)) (ap (λ b. (Q.total a =? Q.total a) and b) (not_lt _ _ (le_refl _)) ∙ and_false _)

-- of equal totals the lower key stands first
pub equal_by_key : (Q : Queue) (k i : ℕ) → Q.total k ≡ Q.total i → before Q k i ≡ (Q.key k <? Q.key i)
equal_by_key Q k i e = same_test _ _
    (λ p. ⊎_elim (λ (l : Q.total i < Q.total k). absurd (omega arith)) (λ q. is_lt _ _ q.1) (ahead Q k i p))
    (λ p. is_before Q k i (inr (sym e, lt_yes _ _ p)))

-- no two guests have one key
abbrev pub Distinct : Queue → Type 0
Distinct Q = (k i : ℕ) → k < Q.guest_count → i < Q.guest_count → Q.key k ≡ Q.key i → k ≡ i

module _ (Q : Queue) (D : Distinct Q) where
  pub before_total :
      (k i : ℕ) → k < Q.guest_count → i < Q.guest_count → (k ≡ i → ⊥) → before Q k i ≡ false → before Q i k ≡ true
  before_total k i lk li ne e = is_before Q i k (go (decide (Q.total k <? Q.total i)) (decide (Q.key i <? Q.key k)))
    where
      neither : Ahead Q k i → ⊥
      neither a = clash (is_before Q k i a) e

      equal : Q.total i ≤ Q.total k → Q.total k ≡ Q.total i
      equal l = ⊎_elim (λ p. sym p) (λ q. absurd (neither (inl q))) (eq-or-lt_of_le l)

      go : ((Q.total k <? Q.total i) ≡ true) ⊎ ((Q.total k <? Q.total i) ≡ false)
          → ((Q.key i <? Q.key k) ≡ true) ⊎ ((Q.key i <? Q.key k) ≡ false) → Ahead Q i k
      go (inl t) s = inl (lt_yes _ _ t)
      go (inr t) (inl s) = inr (equal (lt_no _ _ t), lt_yes _ _ s)
      go (inr t) (inr s) =
          absurd (⊎_elim (λ p. ne (D k i lk li p)) (λ q. neither (inr (sym (equal (lt_no _ _ t)), q)))
          (eq-or-lt_of_le (lt_no _ _ s)))

-- a holder is a candidate, with a rank below the bays
pub provisional_candidate : (Q : Queue) (i : ℕ) → provisional Q i ≡ true → Q.candidate i ≡ true
unfolding provisional
provisional_candidate Q i h = first _ _ h

pub provisional_rank : (Q : Queue) (i : ℕ) → provisional Q i ≡ true → rank Q i < Q.bays
unfolding provisional
provisional_rank Q i h = lt_yes _ _ (second _ _ h)

pub is_provisional : (Q : Queue) (i : ℕ) → Q.candidate i ≡ true → rank Q i < Q.bays → provisional Q i ≡ true
unfolding provisional
is_provisional Q i c r = both c (is_lt _ _ r)

-- a candidate that stands before i has a lower rank
pub rank_lt :
    (Q : Queue) (k i : ℕ) → k < Q.guest_count → Q.candidate k ≡ true → before Q k i ≡ true → rank Q k < rank Q i
unfolding rank
rank_lt Q k i lk ck e = count_strict Q.guest_count _ _
    (λ l ll p. both (first _ _ p) (before_trans Q l k i (second _ _ p) e))
    k lk (rw (before_self Q k) (and_false (Q.candidate k))) (both ck e)

module _ (Q : Queue) (D : Distinct Q) where
  pub rank_single :
      (k i : ℕ) → k < Q.guest_count → i < Q.guest_count → Q.candidate k ≡ true → Q.candidate i ≡ true
      → rank Q k ≡ rank Q i → k ≡ i
  rank_single k i lk li ck ci e = ⊎_elim
      (λ (p : (k =? i) ≡ true). eq_yes _ _ p)
      (λ (p : (k =? i) ≡ false). absurd (⊎_elim
      (λ (q : before Q k i ≡ true). omega (arith, rank_lt Q k i lk ck q))
      (λ (q : before Q k i ≡ false). omega (arith, rank_lt Q i k li ci (before_total Q D k i lk li (eq_no _ _ p) q)))
      (decide (before Q k i))))
      (decide (k =? i))

  -- one candidate at most has rank b
  pub at_most_one : (b : ℕ) → count Q.guest_count (λ k. Q.candidate k and rank Q k =? b) ≤ 1
  at_most_one b = count_one Q.guest_count _ (λ k l lk ll p q.
      rank_single k l lk ll (first _ _ p) (first _ _ q) (eq_yes _ _ (second _ _ p) ∙ sym (eq_yes _ _ (second _ _ q))))

  -- a rank below b + 1 is below b, or is b
  pub one_more : (b : ℕ) → count Q.guest_count (λ k. Q.candidate k and rank Q k <? suc b)
      ≤ count Q.guest_count (λ k. Q.candidate k and rank Q k <? b)
      + count Q.guest_count (λ k. Q.candidate k and rank Q k =? b)
  one_more b = count_or Q.guest_count _ _ _ (λ k l p. ⊎_elim
      (λ q. inr (both (first _ _ p) (is_eq _ _ q)))
      (λ q. inl (both (first _ _ p) (is_lt _ _ q)))
      (eq-or-lt_of_le (le_of_suc-le-suc (lt_yes _ _ (second _ _ p)))))

  -- no more than b candidates have a rank below b
  pub few : (b : ℕ) → count Q.guest_count (λ k. Q.candidate k and rank Q k <? b) ≤ b
  few zero =
      let none : count Q.guest_count (λ k. Q.candidate k and rank Q k <? 0) ≡ 0 =
      count_none Q.guest_count _ (λ k l p. let r : rank Q k < 0 = lt_yes _ _ (second _ _ p) in omega arith) in
      omega arith
  few (suc b) = omega (arith, few b, at_most_one b, one_more b)

  -- so no more hold a place than there are bays
  pub winners_fit : count Q.guest_count (provisional Q) ≤ Q.bays
  unfolding provisional
  winners_fit = few Q.bays

pub is_first_out : (Q : Queue) (k : ℕ) → Q.candidate k ≡ true → rank Q k ≡ Q.bays → first_out Q k ≡ true
unfolding first_out
is_first_out Q k c r = both c (is_eq _ _ r)

-- ---- the ranks are 0, 1, 2 .. without gaps

pub rank_below :
    (Q : Queue) (k : ℕ) → k < Q.guest_count → Q.candidate k ≡ true → rank Q k < count Q.guest_count Q.candidate
unfolding rank
rank_below Q k lk c =
    count_strict Q.guest_count _ _ (λ l ll p. first _ _ p) k lk
    (ap (λ x. Q.candidate k and x) (before_self Q k) ∙ and_false (Q.candidate k)) c

rank_counted : (Q : Queue) (k : ℕ) → rank Q k ≤ count Q.guest_count (λ l. Q.candidate l and rank Q l <? rank Q k)
unfolding rank
rank_counted Q k =
    count_mono Q.guest_count _ _
    (λ l ll p. both (first _ _ p) (is_lt _ _ (rank_lt Q l k ll (first _ _ p) (second _ _ p))))

module _ (Q : Queue) (D : Distinct Q) (r : ℕ)
    (missing : (k : ℕ) → k < Q.guest_count → (Q.candidate k and rank Q k =? r) ≡ false) where
  -- were rank r missing, fewer than b candidates would have a rank below any b above r
  fewer_below : (b : ℕ) → r < b → count Q.guest_count (λ k. Q.candidate k and rank Q k <? b) < b
  fewer_below zero l = absurd (omega arith)
  fewer_below (suc b) l = ⊎_elim
      (λ (e : r ≡ b).
      let none : count Q.guest_count (λ k. Q.candidate k and rank Q k =? b) ≡ 0 = count_none Q.guest_count _
      (λ k lk p. clash p (rw (← e) (missing k lk))) in
      omega (arith, few Q D b, one_more Q D b))
      (λ (q : r < b). omega (arith, fewer_below b q, one_more Q D b, at_most_one Q D b))
      (eq-or-lt_of_le (le_of_suc-le-suc l))

  -- and all candidates would have a rank below r
  all_below : count Q.guest_count Q.candidate ≤ count Q.guest_count (λ k. Q.candidate k and rank Q k <? r)
  all_below = count_mono Q.guest_count _ _ (λ k lk c. both c (is_lt _ _ (⊎_elim
      (λ (l : rank Q k < r). l)
      (λ (l : r ≤ rank Q k). absurd (⊎_elim
      (λ (e : r ≡ rank Q k). clash (both c (is_eq _ _ (sym e))) (missing k lk))
      (λ (q : r < rank Q k). omega (arith, fewer_below (rank Q k) q, rank_counted Q k))
      (eq-or-lt_of_le l)))
      (lt_or_le (rank Q k) r))))

module _ (Q : Queue) (D : Distinct Q) where
  pub rank_taken :
      (r : ℕ) → r < count Q.guest_count Q.candidate
      → (k : ℕ) × (k < Q.guest_count) × (Q.candidate k ≡ true) × (rank Q k ≡ r)
  rank_taken r m = ⊎_elim
      (λ (k, lk, p). (k, lk, first _ _ p, eq_yes _ _ (second _ _ p)))
      (λ missing. absurd (omega (arith, few Q D r, all_below Q D r missing)))
      (search_below Q.guest_count (λ k. Q.candidate k and rank Q k =? r))

  pub ranks_in_order : RanksInOrder Q
  ranks_in_order = record {
    ordered = rank_lt Q;
    no_repeat = rank_single Q D;
    below_all = rank_below Q;
    no_gap = rank_taken;
  }

  -- ---- the critical total is that of the first candidate without a place

  pub first_out_lem : (k : ℕ) → k < Q.guest_count → first_out Q k ≡ true → critical Q ≡ Q.total k
  unfolding critical first_out
  first_out_lem k lk o = let c = first _ _ o in let r = eq_yes _ _ (second _ _ o) in le_antisymm
      (greatest_le Q.guest_count _ _
      (λ l ll. only_le _ _ _ (λ p. after l ll (first _ _ p) (lt_no _ _ (not-true _ (second _ _ p))))))
      (le_trans (le_only _ _ (both c (not_not (not_lt _ _ (omega arith)))))
      (le_greatest Q.guest_count (λ k. only (Q.candidate k and not (rank Q k <? Q.bays)) (Q.total k)) k lk))
    where
      after : (l : ℕ) → l < Q.guest_count → Q.candidate l ≡ true → Q.bays ≤ rank Q l → Q.total l ≤ Q.total k
      after l ll cl rl = ⊎_elim
          (λ (q : Q.total k < Q.total l).
          absurd (omega (arith, eq_yes _ _ (second _ _ o), rank_lt Q l k ll cl (is_before Q l k (inl q)))))
          (λ q. q)
          (lt_or_le (Q.total k) (Q.total l))

  -- and its key bounds the ties: of those at its total the ones with a lower key hold a place
  pub first_out_bounds_ties :
      (k i : ℕ) → k < Q.guest_count → i < Q.guest_count → first_out Q k ≡ true → Q.candidate i ≡ true
      → Q.total i ≡ critical Q → provisional Q i ≡ (Q.key i <? Q.key k)
  unfolding first_out
  first_out_bounds_ties k i lk li o c e =
      let r : rank Q k ≡ Q.bays = eq_yes _ _ (second _ _ o) in
      let same : Q.total i ≡ Q.total k = e ∙ first_out_lem k lk o in
      rw (← equal_by_key Q i k same) (same_test _ _
      (λ h. ⊎_elim (λ b. b)
      (λ (b : before Q i k ≡ false). absurd (omega (
        arith,
        provisional_rank Q i h,
        rank_lt Q k i lk (first _ _ o) (before_total Q D i k li lk (λ q.
            let s : rank Q i ≡ rank Q k = ap (rank Q) q in omega (arith, provisional_rank Q i h)) b),
      )))
      (decide (before Q i k)))
      (λ b. is_provisional Q i c (omega (arith, rank_lt Q i k li c b))))

  pub zero_if_none : count Q.guest_count Q.candidate ≤ Q.bays → critical Q ≡ 0
  unfolding critical
  zero_if_none h = le_antisymm (greatest_le Q.guest_count _ 0 (λ k lk. only_le _ _ _ (λ p.
      let r : Q.bays ≤ rank Q k = lt_no _ _ (not-true _ (second _ _ p)) in
      absurd (omega (arith, rank_below Q k lk (first _ _ p)))))) (omega arith)

  pub critical_is_first_out :
      ((k : ℕ) → k < Q.guest_count → Q.candidate k ≡ true → 0 < Q.total k) → CriticalIsFirstOut Q
  critical_is_first_out positive = record {
    first_out_lem = first_out_lem;
    zero_if_none = zero_if_none;
    none_if_zero = λ z. ⊎_elim
        (λ (m : Q.bays < count Q.guest_count Q.candidate).
        let (k, lk, c, r) = rank_taken Q.bays m in
        absurd (omega (arith, first_out_lem k lk (is_first_out Q k c r), positive k lk c)))
        (λ h. h)
        (lt_or_le Q.bays (count Q.guest_count Q.candidate));
  }
