-- The order of candidacies at one station is that of its queue, and counts of holders when a seat changes.
use Rattle.std.proofs.Common.{◌≡◌, ℕ, zero, suc, ◌+◌, ◌<◌, Bool, true, false, List, length, set, sym, refl, ap, ◌∙◌}
use Rattle.std.proofs.Common.{⊎_elim, le_refl, le_of_suc-le-suc, not-suc-le-zero, eq-or-lt_of_le, arith}
use Rattle.std.proofs.Common.{get_or-set_other, get_or-set_same}
use Rattle.model.specs.Counting.{◌<?◌, ◌=?◌, ◌and◌, ◌or◌, only, count, sum}
use Rattle.model.specs.market.Market.{Screened, queue, before}
use Rattle.model.specs.market.Stable.{sooner}
use Rattle.model.proofs.Tests.{and_false, not_lt}
use Rattle.model.proofs.Counting.{count_cong}
use Rattle.model.proofs.market.Queues.{before_trans, before_self, before_total}
use Rattle.model.proofs.market.Truthful.{Keys}
use Rattle.quiet.specs.Efficient.{of}

or_false : (a : Bool) → (a or false) ≡ a
unfolding ◌or◌
or_false true = refl
or_false false = refl

pub same_station : (S : Screened) (k i j : ℕ) → sooner S k j i j ≡ before (queue S j) k i
unfolding sooner before queue
same_station S k i j =
    ap (λ b. S.total i j <? S.total k j or (S.total i j =? S.total k j and b))
    (ap (λ b. S.key k <? S.key i or b) (ap (λ b. S.key k =? S.key i and b) (not_lt j j (le_refl j)) ∙ and_false _)
    ∙ or_false _)

pub sooner_trans :
    (S : Screened) (j a b c : ℕ) → sooner S a j b j ≡ true → sooner S b j c j ≡ true → sooner S a j c j ≡ true
sooner_trans S j a b c p q =
    same_station S a c j
    ∙ before_trans (queue S j) a b c (sym (same_station S a b j) ∙ p) (sym (same_station S b c j) ∙ q)

pub sooner_self : (S : Screened) (j a : ℕ) → sooner S a j a j ≡ false
sooner_self S j a = same_station S a a j ∙ before_self (queue S j) a

pub sooner_total :
    (S : Screened) → Keys S.key S.guest_count → (j k i : ℕ) → k < S.guest_count → i < S.guest_count
    → (k ≡ i → ⊥) → sooner S k j i j ≡ false → sooner S i j k j ≡ true
unfolding queue
sooner_total S K j k i lk li ne e =
    same_station S i k j ∙ before_total (queue S j) K k i lk li ne (sym (same_station S k i j) ∙ e)

-- a with v at x
pub record Put (a : ℕ → ℕ) (x v : ℕ) (a' : ℕ → ℕ) : Type 0 where
  pub placed : a' x ≡ v
  pub kept : (k : ℕ) → (k ≡ x → ⊥) → a' k ≡ a k

pub put_set : (l : List ℕ) (x s : ℕ) {v : ℕ} → x < length l → s ≡ v → Put (of l) x v (of (set l x s))
put_set l x s h e = record {
  placed = get_or-set_same l x s 0 h ∙ e;
  kept = λ k ne. get_or-set_other l x k s 0 ne;
}

-- one place more, or one less
pub put_count :
    (n : ℕ) (F : ℕ → ℕ → Bool) {a a' : ℕ → ℕ} {x v : ℕ} → Put a x v a' → x < n
    → count n (λ k. F k (a' k)) + only (F x (a x)) 1 ≡ count n (λ k. F k (a k)) + only (F x v) 1
unfolding count sum
put_count zero F p l = absurd (not-suc-le-zero l)
put_count (suc n) F {a} {a'} {x} {v} p l = ⊎_elim
    (λ (e : x ≡ n). rw e (
    let here_is : F n (a' n) ≡ F n v = ap (F n) (rw e at p.placed) in
    let same : sum n (λ k. only (F k (a' k)) 1) ≡ sum n (λ k. only (F k (a k)) 1) =
    count_cong n (λ k. F k (a' k)) (λ k. F k (a k)) (λ k lk. ap (F k) (p.kept k (λ q. omega arith))) in
    rw here_is (omega arith)))
    (λ (q : x < n).
    let last_is : F n (a' n) ≡ F n (a n) = ap (F n) (p.kept n (λ z. omega arith)) in
    rw last_is (omega (arith, put_count n F p q)))
    (eq-or-lt_of_le (le_of_suc-le-suc l))
