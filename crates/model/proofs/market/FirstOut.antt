-- The first candidate without a place: where there is one, and who it is.
use Prim.Native.Nat.{ℕ, ◌≤◌, ◌<◌}
use mathlib.Core.Bool.{true}
use mathlib.Core.Logic.{inr, ⊎_elim}
use mathlib.Core.Path.{◌≡◌, sym, ◌∙◌}
use native.Mathlib.Nat.{eq-or-lt_of_le}
use native.Mathlib.Omega.{arith}
use Rattle.model.specs.Counting.{count}
use Rattle.model.specs.market.Market.{Queue, rank, provisional, first_out, critical}
use Rattle.model.proofs.Tests.{first, second, eq_yes, lt_or_le}
use Rattle.model.proofs.market.Queues.{Distinct, is_before, provisional_rank, is_provisional, rank_lt}
use Rattle.model.proofs.market.Queues.{is_first_out, rank_taken, ranks_in_order, first_out_lem, zero_if_none}

pub first_out_candidate : (Q : Queue) (k : ℕ) → first_out Q k ≡ true → Q.candidate k ≡ true
unfolding first_out
first_out_candidate Q k o = first _ _ o

pub first_out_rank : (Q : Queue) (k : ℕ) → first_out Q k ≡ true → rank Q k ≡ Q.bays
unfolding first_out
first_out_rank Q k o = eq_yes _ _ (second _ _ o)

-- k is a candidate without a place, at the critical total
abbrev pub OutAtCritical : Queue → ℕ → Type 0
OutAtCritical Q k = (Q.candidate k ≡ true) × (provisional Q k ≡ true → ⊥) × (Q.total k ≡ critical Q)

module _ (Q : Queue) (D : Distinct Q) where
  -- there is a first one where more are candidates than there are bays, so where the critical total is not 0
  some_over :
      Q.bays < count Q.guest_count Q.candidate → (k : ℕ) × (k < Q.guest_count) × (first_out Q k ≡ true)
  some_over l = let (k, lk, c, r) = rank_taken Q D Q.bays l in (k, lk, is_first_out Q k c r)

  pub some_first_out : 0 < critical Q → (k : ℕ) × (k < Q.guest_count) × (first_out Q k ≡ true)
  some_first_out p = ⊎_elim some_over
      (λ (l : count Q.guest_count Q.candidate ≤ Q.bays). absurd (omega (arith, zero_if_none Q D l)))
      (lt_or_le Q.bays (count Q.guest_count Q.candidate))

  -- it is out at the critical total, with the lowest key of those
  pub first_out_there : (k : ℕ) → k < Q.guest_count → first_out Q k ≡ true → OutAtCritical Q k
  first_out_there k lk o = (
    first_out_candidate Q k o,
    λ h. omega (arith, first_out_rank Q k o, provisional_rank Q k h),
    sym (first_out_lem Q D k lk o),
  )

  pub first_out_lowest :
      (k l : ℕ) → k < Q.guest_count → l < Q.guest_count → first_out Q k ≡ true → OutAtCritical Q l → Q.key k ≤ Q.key l
  first_out_lowest k l lk ll o (c, n, e) = ⊎_elim
      (λ (q : Q.key l < Q.key k).
      let tied : Q.total k ≡ Q.total l = sym (first_out_lem Q D k lk o) ∙ sym e in
      let sooner : rank Q l < rank Q k = rank_lt Q l k ll c (is_before Q l k (inr (tied, q))) in
      absurd (n (is_provisional Q l c (omega (arith, first_out_rank Q k o)))))
      (λ q. q)
      (lt_or_le (Q.key l) (Q.key k))

  -- and nobody else is
  pub lowest_first_out :
      (k : ℕ) → k < Q.guest_count → OutAtCritical Q k
      → ((l : ℕ) → l < Q.guest_count → OutAtCritical Q l → Q.key k ≤ Q.key l) → first_out Q k ≡ true
  lowest_first_out k lk (c, n, e) lowest = ⊎_elim
      (λ (r : rank Q k < Q.bays). absurd (n (is_provisional Q k c r)))
      (λ (r : Q.bays ≤ rank Q k).
      let (f, lf, o) = some_over (omega (arith, (ranks_in_order Q D).below_all k lk c)) in
      let tied : Q.total f ≡ Q.total k = sym (first_out_lem Q D f lf o) ∙ sym e in
      ⊎_elim
      (λ (s : Q.key k ≡ Q.key f). rw (D k f lk lf s) o)
      (λ (s : Q.key k < Q.key f).
      absurd (omega (arith, first_out_rank Q f o, rank_lt Q k f lk c (is_before Q k f (inr (tied, s))))))
      (eq-or-lt_of_le (lowest f lf (first_out_there f lf o))))
      (lt_or_le (rank Q k) Q.bays)
