-- What a provisional winner's critical total depends on: the others alone. Leave guest i out of the queue; of the
-- others, its `rivals`, those whose rank is then at least bays - 1 stay out once i has a place. The greatest of their
-- totals is i's `pivot`, the least total that stands before them all its `bar`.
use Prim.Native.Nat.{ℕ, ◌+◌, ◌-◌, ◌≤◌, ◌<◌}
use mathlib.Core.Bool.{Bool, true, false, not}
use mathlib.Core.Logic.{inl, inr, ⊎_elim}
use mathlib.Core.Path.{◌≡◌, refl, sym, ap, ◌∙◌}
use native.Mathlib.Nat.{le_refl, le_trans, eq-or-lt_of_le}
use native.Mathlib.Omega.{arith}
use borrow.Author.Tests.{not-true}
use Rattle.model.specs.Counting.{◌<?◌, ◌=?◌, ◌and◌, only, greatest, count}
use Rattle.model.specs.market.Market.{Queue, before, rank, provisional, first_out, critical}
use Rattle.model.specs.market.Menus.{rivals, loses_tie}
use Rattle.model.proofs.Tests.{decide, clash, both, first, second, and_no, same_test, not_not, only_le, le_only}
use Rattle.model.proofs.Tests.{only_yes, only_no, lt_yes, lt_no, eq_yes, eq_no, is_lt, not_lt, is_eq, not_eq}
use Rattle.model.proofs.Tests.{lt_or_le, eq_or_ne}
use Rattle.model.proofs.Counting.{count_mono, count_strict, count_or, count_one, count_cong, le_greatest}
use Rattle.model.proofs.Counting.{greatest_le, greatest_cong, search_below, some_yes, none_some, some_cong}
use Rattle.model.proofs.market.Queues.{Distinct, ahead, is_before, before_trans, before_self, before_total}
use Rattle.model.proofs.market.Queues.{provisional_candidate, provisional_rank, is_provisional, rank_lt, few}
use Rattle.model.proofs.market.Queues.{is_first_out, rank_below, rank_taken, first_out_lem}

-- of the others, whoever is left out once i has a place
unfoldable pub left_out : Queue → ℕ → ℕ → Bool
left_out Q i k = (rivals Q i).candidate k and not (rank (rivals Q i) k <? (rivals Q i).bays)

-- the greatest total of those: what i's place is worth to the others
abbrev pub pivot : Queue → ℕ → ℕ
pivot Q i = critical (rivals Q i)

-- the total that stands before k's, by i's key
unfoldable pub past : Queue → ℕ → ℕ → ℕ
past Q i k = Q.total k + only (Q.key k <? Q.key i) 1

-- the least total with which i holds a place
unfoldable pub bar : Queue → ℕ → ℕ
bar Q i = greatest Q.guest_count (λ k. only (left_out Q i k) (past Q i k))

pub without_candidate : (Q : Queue) (i k : ℕ) → (k ≡ i → ⊥) → Q.candidate k ≡ true → (rivals Q i).candidate k ≡ true
unfolding rivals
without_candidate Q i k ne c = both (not_not (not_eq k i ne)) c

pub without_other : (Q : Queue) (i k : ℕ) → (rivals Q i).candidate k ≡ true → k ≡ i → ⊥
unfolding rivals
without_other Q i k c e = eq_no k i (not-true _ (first _ _ c)) e

pub candidate_without : (Q : Queue) (i k : ℕ) → (rivals Q i).candidate k ≡ true → Q.candidate k ≡ true
unfolding rivals
candidate_without Q i k c = second _ _ c

-- without i a rank is lower by at most one, and by one where i stands before
pub rank_without_le : (Q : Queue) (i k : ℕ) → rank (rivals Q i) k ≤ rank Q k
unfolding rank rivals before
rank_without_le Q i k = count_mono Q.guest_count _ _ (λ l ll p. both (second _ _ (first _ _ p)) (second _ _ p))

pub rank_without_ge : (Q : Queue) (i k : ℕ) → rank Q k ≤ rank (rivals Q i) k + 1
unfolding rank rivals before
rank_without_ge Q i k =
    let one : count Q.guest_count (λ l. l =? i) ≤ 1 =
    count_one Q.guest_count _ (λ a b la lb p q. eq_yes _ _ p ∙ sym (eq_yes _ _ q)) in
    let parts : rank Q k ≤ rank (rivals Q i) k + count Q.guest_count (λ l. l =? i) =
    count_or Q.guest_count _ _ _ (λ l ll p. ⊎_elim
    (λ (e : l =? i ≡ true). inr e)
    (λ (e : l =? i ≡ false). inl (both (both (not_not e) (first _ _ p)) (second _ _ p)))
    (decide (l =? i))) in
    omega arith

pub rank_without_lt :
    (Q : Queue) (i k : ℕ) → i < Q.guest_count → Q.candidate i ≡ true → before Q i k ≡ true
    → rank (rivals Q i) k < rank Q k
unfolding rank rivals before
rank_without_lt Q i k li ci e = count_strict Q.guest_count _ _
    (λ l ll p. both (second _ _ (first _ _ p)) (second _ _ p))
    i li (and_no _ _ (and_no _ _ (ap not (is_eq i i refl)))) (both ci e)

pub rank_without_eq :
    (Q : Queue) (i k : ℕ) → (Q.candidate i and before Q i k) ≡ false → rank Q k ≤ rank (rivals Q i) k
unfolding rank rivals before
rank_without_eq Q i k e = count_mono Q.guest_count _ _ (λ l ll p.
    both (both (not_not (not_eq l i (λ q. clash p (rw q e)))) (first _ _ p)) (second _ _ p))

pub left_out_other : (Q : Queue) (i k : ℕ) → left_out Q i k ≡ true → k ≡ i → ⊥
unfolding left_out
left_out_other Q i k e = without_other Q i k (first _ _ e)

pub left_out_candidate : (Q : Queue) (i k : ℕ) → left_out Q i k ≡ true → Q.candidate k ≡ true
unfolding left_out
left_out_candidate Q i k e = candidate_without Q i k (first _ _ e)

pub left_out_without : (Q : Queue) (i k : ℕ) → left_out Q i k ≡ true → Q.bays ≤ rank (rivals Q i) k + 1
unfolding left_out rivals
left_out_without Q i k e =
    let l : Q.bays - 1 ≤ rank (rivals Q i) k = lt_no _ _ (not-true _ (second _ _ e)) in omega arith

pub is_left_out :
    (Q : Queue) (i k : ℕ) → (k ≡ i → ⊥) → Q.candidate k ≡ true
    → Q.bays ≤ rank (rivals Q i) k + 1 → left_out Q i k ≡ true
unfolding left_out rivals
is_left_out Q i k n c r =
    both (without_candidate Q i k n c)
    (not_not (not_lt _ _ (let l : Q.bays - 1 ≤ rank (rivals Q i) k = omega arith in l)))

pub le_pivot : (Q : Queue) (i k : ℕ) → k < Q.guest_count → left_out Q i k ≡ true → Q.total k ≤ pivot Q i
unfolding critical left_out rivals
le_pivot Q i k lk e =
    le_trans (le_only _ _ e) (le_greatest Q.guest_count (λ k. only (left_out Q i k) (Q.total k)) k lk)

pub past_le_bar : (Q : Queue) (i k : ℕ) → k < Q.guest_count → left_out Q i k ≡ true → past Q i k ≤ bar Q i
unfolding bar
past_le_bar Q i k lk e =
    le_trans (le_only _ _ e) (le_greatest Q.guest_count (λ k. only (left_out Q i k) (past Q i k)) k lk)

pub bar_le :
    (Q : Queue) (i t : ℕ) → ((k : ℕ) → k < Q.guest_count → left_out Q i k ≡ true → past Q i k ≤ t) → bar Q i ≤ t
unfolding bar
bar_le Q i t h = greatest_le Q.guest_count _ t (λ k lk. only_le _ _ _ (h k lk))

-- the bar lies at the pivot or one above
pub pivot_le_bar : (Q : Queue) (i : ℕ) → pivot Q i ≤ bar Q i
unfolding critical left_out rivals past
pivot_le_bar Q i =
    greatest_le Q.guest_count _ _ (λ k lk. only_le _ _ _
    (λ e. le_trans (let s : Q.total k ≤ past Q i k = omega arith in s) (past_le_bar Q i k lk e)))

pub bar_le_pivot : (Q : Queue) (i : ℕ) → bar Q i ≤ pivot Q i + 1
unfolding past
bar_le_pivot Q i =
    bar_le Q i _ (λ k lk e. omega (arith, only_le (Q.key k <? Q.key i) 1 1 (λ _. le_refl 1), le_pivot Q i k lk e))

module _ (Q : Queue) (D : Distinct Q) (i : ℕ) (li : i < Q.guest_count) where
  past_before : (k : ℕ) → k < Q.guest_count → (k ≡ i → ⊥) → past Q i k ≤ Q.total i → before Q i k ≡ true
  unfolding past
  past_before k lk n h = is_before Q i k (⊎_elim
      (λ (q : Q.key k <? Q.key i ≡ true). inl (omega (arith, le_only _ 1 q)))
      (λ (q : Q.key k <? Q.key i ≡ false). ⊎_elim
      (λ (e : Q.total k ≡ Q.total i). inr
      (e, ⊎_elim (λ p. absurd (n (sym (D i k li lk p)))) (λ l. l) (eq-or-lt_of_le (lt_no _ _ q))))
      (λ l. inl l)
      (eq-or-lt_of_le (let s : Q.total k ≤ Q.total i = omega arith in s)))
      (decide (Q.key k <? Q.key i)))

  before_past : (k : ℕ) → before Q i k ≡ true → past Q i k ≤ Q.total i
  unfolding past
  before_past k e = ⊎_elim
      (λ (l : Q.total k < Q.total i). omega (arith, only_le (Q.key k <? Q.key i) 1 1 (λ _. le_refl 1)))
      (λ q. omega (arith, only_no (Q.key k <? Q.key i) 1 (not_lt (Q.key k) (Q.key i) (omega arith))))
      (ahead Q i k e)

  -- a winner stands before all who are left out, and whoever does so wins
  pub provisional_before :
      provisional Q i ≡ true → (k : ℕ) → k < Q.guest_count → left_out Q i k ≡ true → before Q i k ≡ true
  provisional_before h k lk e = ⊎_elim (λ q. q)
      (λ (q : before Q i k ≡ false). absurd (omega (
        arith,
        left_out_without Q i k e,
        provisional_rank Q i h,
        rank_without_le Q i k,
        rank_lt Q k i lk (left_out_candidate Q i k e)
            (before_total Q D i k li lk (λ p. left_out_other Q i k e (sym p)) q),
      )))
      (decide (before Q i k))

  before_provisional :
      Q.candidate i ≡ true → 0 < Q.bays → ((k : ℕ) → k < Q.guest_count → left_out Q i k ≡ true → before Q i k ≡ true)
      → provisional Q i ≡ true
  unfolding rivals rank left_out
  before_provisional c b all = ⊎_elim
      (λ (l : rank Q i < Q.bays). is_provisional Q i c l)
      (λ (l : Q.bays ≤ rank Q i). absurd (omega (arith, crowd, few (rivals Q i) D' (Q.bays - 1))))
      (lt_or_le (rank Q i) Q.bays)
    where
      D' : Distinct (rivals Q i)
      D' = D

      low :
          (k : ℕ) → k < Q.guest_count → (rivals Q i).candidate k ≡ true → before Q k i ≡ true
          → rank (rivals Q i) k < Q.bays - 1
      low k lk w e = ⊎_elim
          (λ l. l)
          (λ (l : Q.bays - 1 ≤ rank (rivals Q i) k). absurd (clash
          (before_trans Q k i k e (all k lk (both w (not_not (not_lt _ _ l))))) (before_self Q k)))
          (lt_or_le (rank (rivals Q i) k) (Q.bays - 1))

      crowd :
          rank Q i
          ≤ count Q.guest_count (λ k. (rivals Q i).candidate k and ((rank (rivals Q i) k) <? (Q.bays - 1)))
      crowd = count_mono Q.guest_count _ _ (λ k lk q.
          let w : (rivals Q i).candidate k ≡ true = without_candidate Q i k
          (λ e. clash (second _ _ q) (rw e (before_self Q i))) (first _ _ q) in
          both w (is_lt _ _ (low k lk w (second _ _ q))))

  -- who wins, by one number that the others make
  pub bar_provisional : Q.candidate i ≡ true → 0 < Q.bays → bar Q i ≤ Q.total i → provisional Q i ≡ true
  bar_provisional c b h =
      before_provisional c b (λ k lk e. past_before k lk (left_out_other Q i k e) (le_trans (past_le_bar Q i k lk e) h))

  pub provisional_bar : provisional Q i ≡ true → bar Q i ≤ Q.total i
  provisional_bar h = bar_le Q i _ (λ k lk e. before_past k (provisional_before h k lk e))

module _ (Q : Queue) (D : Distinct Q) (i : ℕ) (li : i < Q.guest_count) (h : provisional Q i ≡ true) where
  -- beside a winner, whoever is left out is whoever has no place
  pub left_out_rank : (k : ℕ) → k < Q.guest_count → left_out Q i k ≡ true → Q.bays ≤ rank Q k
  left_out_rank k lk e =
      omega (
        arith,
        left_out_without Q i k e,
        rank_without_lt Q i k li (provisional_candidate Q i h) (provisional_before Q D i li h k lk e),
      )

  pub is_left_out_beside : (k : ℕ) → Q.candidate k ≡ true → Q.bays ≤ rank Q k → left_out Q i k ≡ true
  is_left_out_beside k c r =
      is_left_out Q i k (λ e. let s : rank Q k < Q.bays = rw e (provisional_rank Q i h) in omega arith) c
      (omega (arith, rank_without_ge Q i k))

  -- a winner's critical total is its pivot
  pub critical_pivot : critical Q ≡ pivot Q i
  unfolding critical left_out rivals
  critical_pivot = greatest_cong Q.guest_count _ _ (λ k lk. ap (λ b. only b (Q.total k)) (same_test _ _
      (λ p. is_left_out_beside k (first _ _ p) (lt_no _ _ (not-true _ (second _ _ p))))
      (λ p. both (left_out_candidate Q i k p) (not_not (not_lt _ _ (left_out_rank k lk p))))))

  -- a winner's total is at least the critical total
  pub critical_le : critical Q ≤ Q.total i
  critical_le = omega (arith, critical_pivot, pivot_le_bar Q i, provisional_bar Q D i li h)

-- ---- the bar by the first rival without a place

-- that rival is left out, and none who is left out stands before it
first_left_out : (Q : Queue) (i k : ℕ) → first_out (rivals Q i) k ≡ true → left_out Q i k ≡ true
unfolding first_out left_out
first_left_out Q i k o = both (first _ _ o) (not_not (not_lt _ _ (omega (arith, eq_yes _ _ (second _ _ o)))))

first_before :
    (Q : Queue) (i k l : ℕ) → first_out (rivals Q i) k ≡ true → l < Q.guest_count → left_out Q i l ≡ true
    → before Q l k ≡ true → ⊥
unfolding first_out left_out rivals before
first_before Q i k l o ll e b =
    omega (
      arith,
      eq_yes _ _ (second _ _ o),
      lt_no _ _ (not-true _ (second _ _ e)),
      rank_lt (rivals Q i) l k ll (first _ _ e) b,
    )

-- where someone is left out there is a first
some_first :
    (Q : Queue) → Distinct Q → (i l : ℕ) → l < Q.guest_count → left_out Q i l ≡ true
    → (k : ℕ) × (k < Q.guest_count) × (first_out (rivals Q i) k ≡ true)
unfolding left_out rivals
some_first Q D i l ll e =
    let (k, lk, c, r) = rank_taken (rivals Q i) D (Q.bays - 1)
    (omega (arith, lt_no _ _ (not-true _ (second _ _ e)), rank_below (rivals Q i) l ll (first _ _ e))) in
    (k, lk, is_first_out (rivals Q i) k c r)

pub bar_is : (Q : Queue) → Distinct Q → (i : ℕ) → bar Q i ≡ critical (rivals Q i) + only (loses_tie Q i) 1
unfolding loses_tie past rivals
bar_is Q D i = ⊎_elim
    (λ (k, lk, p).
    let o = first _ _ p in
    let top : critical (rivals Q i) ≡ Q.total k = first_out_lem (rivals Q i) D k lk o in
    let reached = past_le_bar Q i k lk (first_left_out Q i k o) in
    let tie : only (loses_tie Q i) 1 ≡ 1 = only_yes _ 1 (some_yes Q.guest_count _ k lk p) in
    omega (arith, le_only _ 1 (second _ _ p), bar_le_pivot Q i))
    (λ none.
    let tie : only (loses_tie Q i) 1 ≡ 0 = only_no _ 1 (none_some Q.guest_count _ none) in
    let most : bar Q i ≤ critical (rivals Q i) = bar_le Q i _ (λ l ll e. ⊎_elim
    (λ (q : (Q.key l <? Q.key i) ≡ true).
    let (k, lk, o) = some_first Q D i l ll e in
    let top : critical (rivals Q i) ≡ Q.total k = first_out_lem (rivals Q i) D k lk o in
    let later : Q.key i ≤ Q.key k = lt_no _ _ (⊎_elim
    (λ (s : (Q.key k <? Q.key i) ≡ true). absurd (clash (both o s) (none k lk)))
    (λ s. s)
    (decide (Q.key k <? Q.key i))) in
    ⊎_elim
    (λ (s : Q.total l ≡ Q.total k).
    absurd (first_before Q i k l o ll e (is_before Q l k (inr (sym s, omega (arith, lt_yes _ _ q))))))
    (λ (s : Q.total l < Q.total k). omega (arith, only_le (Q.key l <? Q.key i) 1 1 (λ _. le_refl 1)))
    (eq-or-lt_of_le (let h : Q.total l ≤ Q.total k = omega (arith, le_pivot Q i l ll e) in h)))
    (λ (q : (Q.key l <? Q.key i) ≡ false). omega (arith, only_no _ 1 q, le_pivot Q i l ll e))
    (decide (Q.key l <? Q.key i))) in
    omega (arith, pivot_le_bar Q i))
    (search_below Q.guest_count (λ k. first_out (rivals Q i) k and Q.key k <? Q.key i))

-- the queue with other candidates and totals
abbrev pub restate : Queue → (ℕ → Bool) → (ℕ → ℕ) → Queue
restate Q c v = record { guest_count = Q.guest_count; bays = Q.bays; candidate = c; total = v; key = Q.key }

-- the pivot and the bar of i are the same whatever i states
module _ (Q : Queue) (c : ℕ → Bool) (v : ℕ → ℕ) (i : ℕ)
    (sc : (k : ℕ) → k < Q.guest_count → (k ≡ i → ⊥) → Q.candidate k ≡ c k)
    (sv : (k : ℕ) → k < Q.guest_count → (k ≡ i → ⊥) → Q.total k ≡ v k) where
  pub rank_same : (k : ℕ) → k < Q.guest_count → (k ≡ i → ⊥) → rank (rivals Q i) k ≡ rank (rivals (restate Q c v) i) k
  unfolding rank rivals before
  rank_same k lk nk = count_cong Q.guest_count _ _ (λ l ll. ⊎_elim
      (λ (e : l ≡ i). and_no _ _ (and_no _ _ (ap not (is_eq l i e)))
      ∙ sym (and_no _ _ (and_no _ _ (ap not (is_eq l i e)))))
      (λ (n : l ≡ i → ⊥). cc (sc l ll n, sv l ll n, sv k lk nk))
      (eq_or_ne l i))

  -- so is whatever is summed up of those left out
  left_out_same : (f g : ℕ → ℕ) → ((k : ℕ) → k < Q.guest_count → (k ≡ i → ⊥) → f k ≡ g k)
      → greatest Q.guest_count (λ k. only (left_out Q i k) (f k))
      ≡ greatest Q.guest_count (λ k. only (left_out (restate Q c v) i k) (g k))
  unfolding left_out rivals
  left_out_same f g s = greatest_cong Q.guest_count _ _ (λ k lk. ⊎_elim
      (λ (e : k ≡ i).
      only_no _ _ (and_no _ _ (and_no _ _ (ap not (is_eq k i e))))
      ∙ sym (only_no _ _ (and_no _ _ (and_no _ _ (ap not (is_eq k i e))))))
      (λ (n : k ≡ i → ⊥). cc (sc k lk n, s k lk n, rank_same k lk n))
      (eq_or_ne k i))

  pub pivot_same : pivot Q i ≡ pivot (restate Q c v) i
  unfolding critical left_out rivals
  pivot_same = left_out_same _ _ sv

  pub bar_same : bar Q i ≡ bar (restate Q c v) i
  unfolding bar past
  bar_same = left_out_same _ _ (λ k lk n. ap (λ x. x + only (Q.key k <? Q.key i) 1) (sv k lk n))

  pub tie_same : loses_tie Q i ≡ loses_tie (restate Q c v) i
  unfolding loses_tie first_out rivals
  tie_same = some_cong Q.guest_count _ _ (λ k lk. ⊎_elim
      (λ (e : k ≡ i).
      and_no _ _ (and_no _ _ (and_no _ _ (ap not (is_eq k i e))))
      ∙ sym (and_no _ _ (and_no _ _ (and_no _ _ (ap not (is_eq k i e))))))
      (λ (n : k ≡ i → ⊥). cc (sc k lk n, rank_same k lk n))
      (eq_or_ne k i))
