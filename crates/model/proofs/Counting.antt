-- Laws of `sum`, `count`, `greatest`, `some`, `any` and `list`.
use Prim.Native.Nat.{ℕ, zero, suc, ◌+◌, ◌*◌, ◌-◌, ◌≤◌, ◌<◌, max}
use mathlib.Core.Bool.{Bool, true, false}
use mathlib.Core.Logic.{◌⊎◌, inl, inr, ⊎_elim}
use mathlib.Core.Path.{◌≡◌, refl, sym, ap, ap₂, ◌∙◌}
use mathlib.Core.List.{List, [], ◌∷◌, ◌++◌}
use native.Mathlib.Nat.{add-zero, eq-or-lt_of_le, le_of_suc-le-suc, not-suc-le-zero, le_refl}
use native.Mathlib.Numerals.{add-one}
use native.Mathlib.Omega.{arith}
use lib.ListN.{get_or, length}
use Rattle.model.specs.Counting.{◌<?◌, ◌or◌, only, sum, greatest, count, some, any, list, ◌and◌}
use Rattle.model.proofs.Tests.{decide, clash, only_le, le_only, only_yes, only_no, is_lt, not_lt, lt_or_le}
use Rattle.model.proofs.Tests.{or_cases, or_left, or_right, or_no, neither, and_true, and_false}

-- what holds below n + 1 holds below n, and at n
pub up : {n k : ℕ} → k < n → k < suc n
up h = omega arith

pub here : {n : ℕ} → n < suc n
here = omega arith

-- ---- sums

pub sum_mono : (n : ℕ) (f g : ℕ → ℕ) → ((k : ℕ) → k < n → f k ≤ g k) → sum n f ≤ sum n g
unfolding sum
sum_mono zero f g h = omega arith
sum_mono (suc n) f g h = omega (arith, sum_mono n f g (λ k l. h k (up l)), h n here)

pub sum_cong : (n : ℕ) (f g : ℕ → ℕ) → ((k : ℕ) → k < n → f k ≡ g k) → sum n f ≡ sum n g
unfolding sum
sum_cong zero f g h = refl
sum_cong (suc n) f g h = omega (arith, sum_cong n f g (λ k l. h k (up l)), h n here)

pub sum_add : (n : ℕ) (f g : ℕ → ℕ) → sum n (λ k. f k + g k) ≡ sum n f + sum n g
unfolding sum
sum_add zero f g = refl
sum_add (suc n) f g = omega (arith, sum_add n f g)

pub sum_zero : (n : ℕ) (f : ℕ → ℕ) → ((k : ℕ) → k < n → f k ≡ 0) → sum n f ≡ 0
unfolding sum
sum_zero zero f h = refl
sum_zero (suc n) f h = omega (arith, sum_zero n f (λ k l. h k (up l)), h n here)

pub sum_strict : (n : ℕ) (f g : ℕ → ℕ) → ((k : ℕ) → k < n → f k ≤ g k) → (i : ℕ) → i < n → f i < g i → sum n f < sum n g
unfolding sum
sum_strict zero f g h i l s = absurd (not-suc-le-zero l)
sum_strict (suc n) f g h i l s = ⊎_elim
    (λ (e : i ≡ n). omega (arith, sum_mono n f g (λ k l. h k (up l)), rw e at s))
    (λ (m : i < n). omega (arith, sum_strict n f g (λ k l. h k (up l)) i m s, h n here))
    (eq-or-lt_of_le (le_of_suc-le-suc l))

-- one term, where the others are 0
pub sum_single : (n : ℕ) (f : ℕ → ℕ) (k : ℕ) → k < n → ((j : ℕ) → j < n → (j ≡ k → ⊥) → f j ≡ 0) → sum n f ≡ f k
unfolding sum
sum_single zero f k l h = absurd (not-suc-le-zero l)
sum_single (suc n) f k l h = ⊎_elim
    (λ (e : k ≡ n). rw e (omega (arith, sum_zero n f (λ j lj. h j (up lj) (λ q. omega arith)))))
    (λ (m : k < n). omega (arith, sum_single n f k m (λ j lj. h j (up lj)), h n here (λ q. omega arith)))
    (eq-or-lt_of_le (le_of_suc-le-suc l))

-- from the front
pub sum_front : (n : ℕ) (f : ℕ → ℕ) → sum (suc n) f ≡ f 0 + sum n (λ k. f (suc k))
unfolding sum
sum_front zero f = omega arith
sum_front (suc n) f = omega (arith, sum_front n f)

pub sum_scale : (n c : ℕ) (f : ℕ → ℕ) → sum n (λ k. c * f k) ≡ c * sum n f
unfolding sum
sum_scale zero c f = omega arith
sum_scale (suc n) c f = omega (arith, sum_scale n c f)

pub sum_most : (n y : ℕ) (f : ℕ → ℕ) → ((k : ℕ) → k < n → f k ≤ y) → sum n f ≤ y * n
unfolding sum
sum_most zero y f h = omega arith
sum_most (suc n) y f h = omega (arith, sum_most n y f (λ k l. h k (up l)), h n here)

-- a sum of sums, the other way round
pub sum_swap : (n m : ℕ) (f : ℕ → ℕ → ℕ) → sum n (λ i. sum m (f i)) ≡ sum m (λ j. sum n (λ i. f i j))
unfolding sum
sum_swap zero m f = sym (sum_zero m (λ j. 0) (λ k l. refl))
sum_swap (suc n) m f = ap (λ x. x + sum m (f n)) (sum_swap n m f) ∙ sym (sum_add m (λ j. sum n (λ i. f i j)) (f n))

-- in two parts, and row after row
pub sum_parts : (n k : ℕ) (f : ℕ → ℕ) → sum (n + k) f ≡ sum n f + sum k (λ i. f (n + i))
unfolding sum
sum_parts n zero f = rw (add-zero n) (omega arith)
sum_parts n (suc k) f = let e : n + suc k ≡ suc (n + k) = omega arith in rw e (omega (arith, sum_parts n k f))

pub sum_rows : (n m : ℕ) (f : ℕ → ℕ) → sum n (λ i. sum m (λ j. f (i * m + j))) ≡ sum (n * m) f
unfolding sum
sum_rows zero m f = let e : 0 * m ≡ 0 = omega arith in rw e refl
sum_rows (suc n) m f =
    let e : suc n * m ≡ n * m + m = omega arith in rw e (omega (arith, sum_rows n m f, sum_parts (n * m) m f))

-- ---- counts

pub count_mono : (n : ℕ) (f g : ℕ → Bool) → ((k : ℕ) → k < n → f k ≡ true → g k ≡ true) → count n f ≤ count n g
unfolding count
count_mono n f g h =
    sum_mono n (λ k. only (f k) 1) (λ k. only (g k) 1) (λ k l. only_le (f k) 1 _ (λ e. le_only (g k) 1 (h k l e)))

pub count_strict : (n : ℕ) (f g : ℕ → Bool) → ((k : ℕ) → k < n → f k ≡ true → g k ≡ true)
    → (i : ℕ) → i < n → f i ≡ false → g i ≡ true → count n f < count n g
unfolding count only
count_strict n f g h i l p q =
    sum_strict n (λ k. only (f k) 1) (λ k. only (g k) 1) (λ k l. only_le (f k) 1 _ (λ e. le_only (g k) 1 (h k l e))) i
    l (rw (p, q) (omega arith))

-- f is within g or h
pub count_or :
    (n : ℕ) (f g h : ℕ → Bool) → ((k : ℕ) → k < n → f k ≡ true → (g k ≡ true) ⊎ (h k ≡ true))
    → count n f ≤ count n g + count n h
unfolding count
count_or n f g h c =
    let s : sum n (λ k. only (f k) 1) ≤ sum n (λ k. only (g k) 1 + only (h k) 1) =
    sum_mono n _ _ (λ k l. only_le (f k) 1 _
    (λ e. ⊎_elim (λ p. omega (arith, le_only (g k) 1 p)) (λ p. omega (arith, le_only (h k) 1 p)) (c k l e))) in
    omega (arith, sum_add n (λ k. only (g k) 1) (λ k. only (h k) 1))

pub count_cong : (n : ℕ) (f g : ℕ → Bool) → ((k : ℕ) → k < n → f k ≡ g k) → count n f ≡ count n g
unfolding count
count_cong n f g h = sum_cong n _ _ (λ k l. ap (λ b. only b 1) (h k l))

-- none
pub count_none : (n : ℕ) (f : ℕ → Bool) → ((k : ℕ) → k < n → f k ≡ true → ⊥) → count n f ≡ 0
unfolding count
count_none n f h = sum_zero n (λ k. only (f k) 1) (λ k l. omega (arith, only_le (f k) 1 0 (λ e. absurd (h k l e))))

-- at most one
pub count_one : (n : ℕ) (f : ℕ → Bool) → ((k l : ℕ) → k < n → l < n → f k ≡ true → f l ≡ true → k ≡ l) → count n f ≤ 1
unfolding count sum only
count_one zero f h = omega arith
count_one (suc n) f h = ⊎_elim
    (λ (e : f n ≡ true). rw e (omega (arith, count_none n f (λ k l p. omega (arith, h k n (up l) here p e)))))
    (λ (e : f n ≡ false). rw e (omega (arith, count_one n f (λ k l p q. h k l (up p) (up q)))))
    (decide (f n))

initial_all : (n p : ℕ) → n ≤ p → count n (λ k. k <? p) ≡ n
unfolding count sum
initial_all zero p h = refl
initial_all (suc n) p h = omega (arith, initial_all n p (let q : n ≤ p = omega arith in q), only_yes _ 1 (is_lt n p h))

-- at least one
pub count_some : (n : ℕ) (f : ℕ → Bool) (k : ℕ) → k < n → f k ≡ true → 0 < count n f
count_some n f k l p = let none : count n (λ _. false) ≡ 0 = count_none n _ (λ _ _ q. clash q refl) in
    omega (arith, count_strict n (λ _. false) f (λ _ _ q. absurd (clash q refl)) k l refl p)

-- those below p
pub count_initial : (n p : ℕ) → p ≤ n → count n (λ k. k <? p) ≡ p
unfolding count sum
count_initial zero p h = omega arith
count_initial (suc n) p h = ⊎_elim
    (λ (l : n < p). omega (arith, initial_all n p (let q : n ≤ p = omega arith in q), only_yes _ 1 (is_lt n p l)))
    (λ (l : p ≤ n). omega (arith, count_initial n p l, only_no _ 1 (not_lt n p l)))
    (lt_or_le n p)

pub count_most : (n : ℕ) (f : ℕ → Bool) → count n f ≤ n
unfolding count sum
count_most zero f = omega arith
count_most (suc n) f = omega (arith, count_most n f, only_le (f n) 1 1 (λ _. le_refl 1))

pub count_up : (n m : ℕ) (f : ℕ → Bool) → n ≤ m → count n f ≤ count m f
unfolding count sum
count_up n zero f h = let e : n ≡ 0 = omega arith in rw e (omega arith)
count_up n (suc m) f h = ⊎_elim
    (λ (e : n ≡ suc m). rw e (omega arith))
    (λ (l : n < suc m). omega (arith, count_up n m f (le_of_suc-le-suc l)))
    (eq-or-lt_of_le h)

-- where all n pass, each does, and all below each
pub count_all : (n : ℕ) (f : ℕ → Bool) → count n f ≡ n → (k : ℕ) → k < n → (count k f ≡ k) × (f k ≡ true)
unfolding count sum only
count_all zero f e k l = absurd (omega arith)
count_all (suc n) f e k l = ⊎_elim
    (λ (t : f n ≡ true). let c : count n f ≡ n = omega (arith, rw t at e) in ⊎_elim
    (λ (q : k ≡ n). rw q (c, t))
    (λ (q : k < n). count_all n f c k q)
    (eq-or-lt_of_le (le_of_suc-le-suc l)))
    (λ (t : f n ≡ false). absurd (omega (arith, rw t at e, count_most n f)))
    (decide (f n))

-- the k-th that passes
pub count_place :
    (n : ℕ) (f : ℕ → Bool) (k : ℕ) → k < count n f → (j : ℕ) × (j < n) × (f j ≡ true) × (count j f ≡ k)
unfolding count sum only
count_place zero f k l = absurd (not-suc-le-zero l)
count_place (suc n) f k l = ⊎_elim
    (λ (h : k < count n f). let (j, lj, t, e) = count_place n f k h in (j, up lj, t, e))
    (λ (h : count n f ≤ k). ⊎_elim
    (λ (t : f n ≡ true). (n, here, t, omega (arith, rw t at l)))
    (λ (t : f n ≡ false). absurd (omega (arith, rw t at l)))
    (decide (f n)))
    (lt_or_le k (count n f))

pub count_front : (n : ℕ) (f : ℕ → Bool) → count (suc n) f ≡ only (f 0) 1 + count n (λ k. f (suc k))
unfolding count
count_front n f = sum_front n (λ k. only (f k) 1)

-- counting those below i is counting the first i
pub count_first : (f : ℕ → Bool) (n i : ℕ) → i ≤ n → count n (λ k. f k and k <? i) ≡ count i f
unfolding count sum
count_first f zero i l = let e : i ≡ 0 = omega arith in rw e refl
count_first f (suc n) i l = ⊎_elim
    (λ (e : i ≡ suc n). rw e
    (count_cong (suc n) _ _ (λ k lk. ap (λ b. f k and b) (is_lt k (suc n) lk) ∙ and_true (f k))))
    (λ (q : i < suc n). omega (
      arith,
      count_first f n i (le_of_suc-le-suc q),
      only_no (f n and n <? i) 1 (ap (λ b. f n and b) (not_lt n i (le_of_suc-le-suc q)) ∙ and_false (f n)),
    ))
    (eq-or-lt_of_le l)

-- ---- the greatest

pub le_greatest : (n : ℕ) (f : ℕ → ℕ) (k : ℕ) → k < n → f k ≤ greatest n f
unfolding greatest
le_greatest zero f k l = absurd (not-suc-le-zero l)
le_greatest (suc n) f k l = ⊎_elim
    (λ (e : k ≡ n). rw e (omega arith))
    (λ (m : k < n). omega (arith, le_greatest n f k m))
    (eq-or-lt_of_le (le_of_suc-le-suc l))

pub greatest_le : (n : ℕ) (f : ℕ → ℕ) (y : ℕ) → ((k : ℕ) → k < n → f k ≤ y) → greatest n f ≤ y
unfolding greatest
greatest_le zero f y h = omega arith
greatest_le (suc n) f y h = omega (arith, greatest_le n f y (λ k l. h k (up l)), h n here)

pub greatest_cong : (n : ℕ) (f g : ℕ → ℕ) → ((k : ℕ) → k < n → f k ≡ g k) → greatest n f ≡ greatest n g
unfolding greatest
greatest_cong zero f g h = refl
greatest_cong (suc n) f g h = ap₂ max (greatest_cong n f g (λ k l. h k (up l))) (h n here)

-- the first k below n that passes, or none does
pub search_below : (n : ℕ) (f : ℕ → Bool) → ((k : ℕ) × (k < n) × (f k ≡ true)) ⊎ ((k : ℕ) → k < n → f k ≡ false)
search_below zero f = inr (λ k l. absurd (not-suc-le-zero l))
search_below (suc n) f = ⊎_elim
    (λ e. inl (e.0, up e.1, e.2))
    (λ h. ⊎_elim
    (λ (e : f n ≡ true). inl (n, here, e))
    (λ (e : f n ≡ false). inr
    (λ k l. ⊎_elim (λ (q : k ≡ n). rw q e) (λ q. h k q) (eq-or-lt_of_le (le_of_suc-le-suc l))))
    (decide (f n)))
    (search_below n f)

-- a step of a loop that counts, in the code's i + 1
pub count_step : (i : ℕ) (f : ℕ → Bool) → count (i + 1) f ≡ count i f + only (f i) 1
unfolding count sum
count_step i f = rw add-one refl

pub count_yes : (i : ℕ) (f : ℕ → Bool) → f i ≡ true → count (i + 1) f ≡ count i f + 1
count_yes i f e = count_step i f ∙ ap (λ x. count i f + x) (only_yes _ 1 e)

-- before one that passes there are fewer
pub count_less : (n : ℕ) (f : ℕ → Bool) (k : ℕ) → k < n → f k ≡ true → count k f < count n f
count_less n f k l e = omega (arith, count_yes k f e, count_up (k + 1) n f (omega arith))

pub count_not : (i : ℕ) (f : ℕ → Bool) → f i ≡ false → count (i + 1) f ≡ count i f
count_not i f e = count_step i f ∙ ap (λ x. count i f + x) (only_no _ 1 e) ∙ add-zero (count i f)

pub count_start : (f : ℕ → Bool) → count 0 f ≡ 0
unfolding count sum
count_start f = refl

-- ---- some, any

pub some_yes : (n : ℕ) (f : ℕ → Bool) (k : ℕ) → k < n → f k ≡ true → some n f ≡ true
unfolding some
some_yes zero f k l p = absurd (not-suc-le-zero l)
some_yes (suc n) f k l p = ⊎_elim
    (λ (e : k ≡ n). or_right _ _ (rw e at p))
    (λ (m : k < n). or_left _ _ (some_yes n f k m p))
    (eq-or-lt_of_le (le_of_suc-le-suc l))

pub some_no : (n : ℕ) (f : ℕ → Bool) → some n f ≡ false → (k : ℕ) → k < n → f k ≡ false
unfolding some
some_no zero f e k l = absurd (not-suc-le-zero l)
some_no (suc n) f e k l = ⊎_elim
    (λ (q : k ≡ n). rw q (or_no _ _ e).1)
    (λ (m : k < n). some_no n f (or_no _ _ e).0 k m)
    (eq-or-lt_of_le (le_of_suc-le-suc l))

pub none_some : (n : ℕ) (f : ℕ → Bool) → ((k : ℕ) → k < n → f k ≡ false) → some n f ≡ false
unfolding some
none_some zero f h = refl
none_some (suc n) f h = neither (none_some n f (λ k l. h k (up l))) (h n here)

-- among the first i, or among the k from p on, which begin there or before
pub some_joined :
    (f : ℕ → Bool) (i p k : ℕ) → p ≤ i → i ≤ p + k → (some i f or some k (λ j. f (p + j))) ≡ some (p + k) f
some_joined f i p k a b = ⊎_elim
    (λ (e : some (p + k) f ≡ true). ⊎_elim
    (λ (h : (some i f or some k (λ j. f (p + j))) ≡ true). h ∙ sym e)
    (λ (h : (some i f or some k (λ j. f (p + j))) ≡ false). absurd (clash e (none_some (p + k) f (λ j l. ⊎_elim
    (λ (m : j < i). some_no i f (or_no _ _ h).0 j m)
    (λ (m : i ≤ j).
    let q : p + (j - p) ≡ j = omega arith in rw q at (some_no k _ (or_no _ _ h).1 (j - p) (omega arith)))
    (lt_or_le j i)))))
    (decide _))
    (λ (e : some (p + k) f ≡ false). neither (none_some i f (λ j l. some_no (p + k) f e j (omega arith)))
    (none_some k _ (λ j l. some_no (p + k) f e (p + j) (omega arith))) ∙ sym e)
    (decide (some (p + k) f))

pub some_cong : (n : ℕ) (f g : ℕ → Bool) → ((k : ℕ) → k < n → f k ≡ g k) → some n f ≡ some n g
unfolding some
some_cong zero f g h = refl
some_cong (suc n) f g h = ap₂ ◌or◌ (some_cong n f g (λ k l. h k (up l))) (h n here)

pub some_mono :
    (n : ℕ) (f g : ℕ → Bool) → ((k : ℕ) → k < n → f k ≡ true → g k ≡ true) → some n f ≡ true → some n g ≡ true
unfolding some
some_mono zero f g h e = e
some_mono (suc n) f g h e = ⊎_elim
    (λ p. or_left _ _ (some_mono n f g (λ k l. h k (up l)) p))
    (λ p. or_right _ _ (h n here p))
    (or_cases _ _ e)

pub any_no : (xs : List ℕ) (f : ℕ → Bool) → any xs f ≡ false → (k : ℕ) → k < length xs → f (get_or xs k 0) ≡ false
unfolding any
any_no xs f e = some_no (length xs) _ e

pub none_any : (xs : List ℕ) (f : ℕ → Bool) → ((k : ℕ) → k < length xs → f (get_or xs k 0) ≡ false) → any xs f ≡ false
unfolding any
none_any xs f h = none_some (length xs) _ h

-- ---- list

pub length_list : (n : ℕ) (f : ℕ → ℕ) → length (list n f) ≡ n
unfolding list
length_list zero f = refl
length_list (suc n) f = ap suc (length_list n (λ k. f (suc k)))

pub get_d_list : (n : ℕ) (f : ℕ → ℕ) (k : ℕ) → k < n → get_or (list n f) k 0 ≡ f k
unfolding list
get_d_list zero f k l = absurd (not-suc-le-zero l)
get_d_list (suc n) f zero l = refl
get_d_list (suc n) f (suc k) l = get_d_list n (λ k. f (suc k)) k (le_of_suc-le-suc l)

pub list_cong : (n : ℕ) (f g : ℕ → ℕ) → ((k : ℕ) → k < n → f k ≡ g k) → list n f ≡ list n g
unfolding list
list_cong zero f g h = refl
list_cong (suc n) f g h =
    ap₂ ◌∷◌ (h 0 (omega arith)) (list_cong n (λ k. f (suc k)) (λ k. g (suc k)) (λ k l. h (suc k) (omega arith)))

list_suc : (n : ℕ) (f : ℕ → ℕ) → list (suc n) f ≡ list n f ++ (f n ∷ [])
unfolding list
list_suc zero f = refl
list_suc (suc n) f = ap (λ l. f 0 ∷ l) (list_suc n (λ k. f (suc k)))
