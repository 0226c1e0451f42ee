-- Laws of a list of accounts that a round is added to.
use Prim.Native.Nat.{ℕ, zero, suc, ◌+◌, ◌≤◌, ◌<◌}
use mathlib.Core.List.{List}
use mathlib.Core.Logic.{⊎_elim}
use mathlib.Core.Path.{◌≡◌, ap, ◌∙◌}
use native.Mathlib.Omega.{arith}
use lib.ListN.{get_or, length, replicate, length-replicate, get_or-replicate}
use Rattle.model.specs.Counting.{◌<?◌, only, sum}
use Rattle.model.specs.book.PlainBook.{raised, sum_all}
use Rattle.model.proofs.Tests.{is_lt, not_lt, lt_or_le, only_yes, only_no}
use Rattle.model.proofs.Counting.{up, sum_cong, sum_add, sum_zero, length_list, get_d_list}

pub length_raised : (n : ℕ) (f : ℕ → ℕ) (xs : List ℕ) → length (raised n f xs) ≡ length xs
unfolding raised
length_raised n f xs = length_list (length xs) _

pub get_d_raised :
    (n : ℕ) (f : ℕ → ℕ) (xs : List ℕ) (k : ℕ) → k < length xs
    → get_or (raised n f xs) k 0 ≡ get_or xs k 0 + only (k <? n) (f k)
unfolding raised
get_d_raised n f xs k l = get_d_list (length xs) _ k l

-- a sum of the terms below n, taken over a longer range
sum_below : (n m : ℕ) (f : ℕ → ℕ) → n ≤ m → sum m (λ k. only (k <? n) (f k)) ≡ sum n f
unfolding sum
sum_below n zero f l = let e : n ≡ 0 = omega arith in rw e
sum_below n (suc m) f l = ⊎_elim
    (λ (h : m < n).
    let e : n ≡ suc m = omega arith in
    rw e (omega (
      arith,
      sum_cong m (λ k. only (k <? suc m) (f k)) f (λ k lk. only_yes _ _ (is_lt k (suc m) (up lk))),
      only_yes (m <? suc m) (f m) (is_lt m (suc m) (omega arith)),
    )))
    (λ (h : n ≤ m). omega (arith, sum_below n m f h, only_no (m <? n) (f m) (not_lt m n h)))
    (lt_or_le m n)

pub sum_all_raised :
    (n : ℕ) (f : ℕ → ℕ) (xs : List ℕ) → n ≤ length xs → sum_all (raised n f xs) ≡ sum_all xs + sum n f
unfolding sum_all
sum_all_raised n f xs l =
    rw length_raised (sum_cong (length xs) _ (λ k. get_or xs k 0 + only (k <? n) (f k)) (λ k q. get_d_raised n f xs k q)
    ∙ sum_add (length xs) (λ k. get_or xs k 0) (λ k. only (k <? n) (f k))
    ∙ ap (λ x. sum (length xs) (λ k. get_or xs k 0) + x) (sum_below n (length xs) f l))

pub sum_all_zeros : (n : ℕ) → sum_all (replicate n 0) ≡ 0
unfolding sum_all
sum_all_zeros n = rw length-replicate (sum_zero n _ (λ k l. get_or-replicate n k 0 0 l))
