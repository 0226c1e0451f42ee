-- More guests at the same stations: ranks and critical totals rise, so that no place is new and no charge is lower.
use Prim.Native.Nat.{ℕ, ◌+◌, ◌*◌, ◌≤◌, ◌<◌}
use mathlib.Core.Bool.{Bool, true, not}
use mathlib.Core.Path.{◌≡◌, sym, ap₂, ◌∙◌}
use native.Mathlib.Nat.{le_trans, le_of_eq}
use native.Mathlib.Omega.{arith}
use borrow.Author.Tests.{not-true}
use Rattle.model.specs.Counting.{◌<?◌, ◌and◌, only, count}
use Rattle.model.specs.market.Market.{Market, cut, opens, screen, Queue, queue, before, rank, provisional}
use Rattle.model.specs.market.Market.{critical}
use Rattle.model.specs.market.Mechanism.{charge, truthful}
use Rattle.model.proofs.Tests.{both, first, second, not_not, only_le, le_only, lt_no, not_lt}
use Rattle.model.proofs.Counting.{sum_parts, count_cong, le_greatest, greatest_le}
use Rattle.model.proofs.market.Queues.{provisional_candidate, provisional_rank, is_provisional}

-- the first n of n + p, and the last p
pub count_first_part : (n p : ℕ) (f : ℕ → Bool) → count n f ≤ count (n + p) f
unfolding count
count_first_part n p f = omega (arith, sum_parts n p (λ k. only (f k) 1))

pub count_last_part : (n p : ℕ) (f : ℕ → Bool) → count p (λ k. f (n + k)) ≤ count (n + p) f
unfolding count
count_last_part n p f = omega (arith, sum_parts n p (λ k. only (f k) 1))

-- ---- one station: guest k of Q is guest `new k` of R, which has more

module _ (Q R : Queue) (new : ℕ → ℕ) (inside : (k : ℕ) → k < Q.guest_count → new k < R.guest_count)
    (more : (f : ℕ → Bool) → count Q.guest_count (λ k. f (new k)) ≤ count R.guest_count f)
    (same_bays : Q.bays ≡ R.bays)
    (same_candidate : (k : ℕ) → k < Q.guest_count → Q.candidate k ≡ R.candidate (new k))
    (same_total : (k : ℕ) → k < Q.guest_count → Q.total k ≡ R.total (new k))
    (same_key : (k : ℕ) → k < Q.guest_count → Q.key k ≡ R.key (new k)) where
  rank_rises : (k : ℕ) → k < Q.guest_count → rank Q k ≤ rank R (new k)
  unfolding rank before
  rank_rises k lk = le_trans
      (le_of_eq (count_cong Q.guest_count _ _ (λ l ll.
      cc (same_candidate l ll, same_total l ll, same_key l ll, same_total k lk, same_key k lk))))
      (more (λ l. R.candidate l and before R l (new k)))

  pub held_already : (k : ℕ) → k < Q.guest_count → provisional R (new k) ≡ true → provisional Q k ≡ true
  held_already k lk h =
      is_provisional Q k (same_candidate k lk ∙ provisional_candidate R (new k) h)
      (omega (arith, rank_rises k lk, provisional_rank R (new k) h))

  pub critical_rises : critical Q ≤ critical R
  unfolding critical
  critical_rises = greatest_le Q.guest_count _ _ (λ k lk. only_le _ _ _ (λ p.
      let out : Q.bays ≤ rank Q k = lt_no _ _ (not-true _ (second _ _ p)) in
      le_trans (le_of_eq (same_total k lk)) (le_trans
      (le_only _ _ (both (sym (same_candidate k lk) ∙ first _ _ p)
      (not_not (not_lt _ _ (omega (arith, rank_rises k lk))))))
      (le_greatest R.guest_count (λ k. only (R.candidate k and not (rank R k <? R.bays)) (R.total k)) (new k)
      (inside k lk)))))

-- ---- two markets with one cut, open at station j alike: guest k of M is guest `new k` of N, which has more

module _ (M N : Market) (j : ℕ) (new : ℕ → ℕ) (inside : (k : ℕ) → k < M.guest_count → new k < N.guest_count)
    (more : (f : ℕ → Bool) → count M.guest_count (λ k. f (new k)) ≤ count N.guest_count f)
    (same_cut : cut M ≡ cut N) (same_open : opens M j ≡ opens N j) (same_bays : M.bays j ≡ N.bays j)
    (same_amount : (k : ℕ) → k < M.guest_count → M.amount k ≡ N.amount (new k))
    (same_bid : (k : ℕ) → k < M.guest_count → M.bid k j ≡ N.bid (new k) j)
    (same_key : (k : ℕ) → k < M.guest_count → M.key k ≡ N.key (new k)) where
  candidates_same :
      (k : ℕ) → k < M.guest_count → (screen M).candidate k j ≡ (screen N).candidate (new k) j
  unfolding screen
  candidates_same k lk = cc (same_bid k lk)

  totals_same : (k : ℕ) → k < M.guest_count → (screen M).total k j ≡ (screen N).total (new k) j
  unfolding screen
  totals_same k lk = cc (same_bid k lk, same_amount k lk)

  pub place_held_already :
      (i : ℕ) → i < M.guest_count → provisional (queue (screen N) j) (new i) ≡ true
      → provisional (queue (screen M) j) i ≡ true
  unfolding queue screen
  place_held_already =
      held_already (queue (screen M) j) (queue (screen N) j) new inside more same_bays candidates_same totals_same
      same_key

  pub charge_rises :
      (i : ℕ) → i < M.guest_count
      → charge (screen M) (truthful (screen M)) i j ≤ charge (screen N) (truthful (screen N)) (new i) j
  unfolding charge truthful queue screen
  charge_rises i li =
      omega (
        arith,
        critical_rises (queue (screen M) j) (queue (screen N) j) new inside more same_bays candidates_same totals_same
            same_key,
        ap₂ ◌*◌ same_cut (same_amount i li),
      )
