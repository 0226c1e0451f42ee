-- Laws for loops: one turn and the end of a loop that counts, sums, takes the greatest, scans or stores.
use Prim.Native.Nat.{ℕ, ◌+◌, ◌*◌, ◌≤◌, ◌<◌, max}
use mathlib.Core.Bool.{Bool, true, false, ◌||◌, ◌&&◌}
use mathlib.Core.List.{List}
use mathlib.Core.Logic.{◌⊎◌, ⊎_elim}
use mathlib.Core.Path.{◌≡◌, refl, sym, ap, ap₂, ◌∙◌}
use native.Mathlib.Nat.{le_antisymm, mul-le-mul_right}
use native.Mathlib.Numerals.{add-one}
use native.Mathlib.Omega.{arith}
use lib.Dec.{ltb}
use lib.ListN.{get_or, length, set, length-set, take, replicate, length-take, length-replicate, get_or-replicate}
use lib.Seq.{get_or-set_same, get_or-set_other, ext_get_or, get_or-take}
use borrow.Author.Count.{below_none, below_more}
use Rattle.model.specs.Counting.{◌<?◌, ◌or◌, sum, greatest, count, some, list}
use Rattle.model.specs.market.Faults.{outside}
use Rattle.model.proofs.Tests.{clash}
use Rattle.model.proofs.Counting.{sum_most, count_yes, count_not, count_start, count_most, greatest_le}
use Rattle.model.proofs.Counting.{length_list, get_d_list, list_cong}

-- ---- loops that fold `sum`, `count`, `greatest` or `some`: within the first n, and r is that of the first i

pub record Folded {A B : Type 0} (fold : ℕ → (ℕ → B) → A) (n : ℕ) (f : ℕ → B) (r : A) (i : ℕ) : Type 0 where
  pub within : i ≤ n
  pub so_far : r ≡ fold i f

pub folded_none :
    {A B : Type 0} {fold : ℕ → (ℕ → B) → A} {n : ℕ} {f : ℕ → B} {r : A} → r ≡ fold 0 f → Folded fold n f r 0
folded_none {n = n} e = record { within = omega arith; so_far = e }

pub folded_turn :
    {A B : Type 0} {fold : ℕ → (ℕ → B) → A} {n i : ℕ} {f : ℕ → B} {r s : A}
    → Folded fold n f r i → i < n → s ≡ fold (i + 1) f → Folded fold n f s (i + 1)
folded_turn h l e = record { within = omega arith; so_far = e }

pub folded_end :
    {A B : Type 0} {fold : ℕ → (ℕ → B) → A} {n i : ℕ} {f : ℕ → B} {r : A}
    → Folded fold n f r i → n ≤ i → r ≡ fold n f
folded_end {fold = fold} {f = f} h b = h.so_far ∙ ap (λ k. fold k f) (le_antisymm h.within b)

pub sum_more : (f : ℕ → ℕ) (i r s x : ℕ) → r ≡ sum i f → x ≡ f i → s ≡ r + x → s ≡ sum (i + 1) f
unfolding sum
sum_more f i r s x e h q = rw (add-one, ← e, ← h) q

pub sum_none : {n : ℕ} {f : ℕ → ℕ} → Folded sum n f 0 0
unfolding sum
sum_none = folded_none refl

pub sum_turn :
    {n i r s x : ℕ} {f : ℕ → ℕ} → Folded sum n f r i → i < n → x ≡ f i → s ≡ r + x → Folded sum n f s (i + 1)
sum_turn {i = i} {r} {s} {x} {f} h l e q = folded_turn h l (sum_more f i r s x h.so_far e q)

pub sum_low : {n i r : ℕ} {f : ℕ → ℕ} (y : ℕ) → Folded sum n f r i → ((k : ℕ) → k < n → f k ≤ y) → r ≤ y * i
sum_low {i = i} {f = f} y h low = omega (arith, h.so_far, sum_most i y f (λ k l. low k (omega (arith, h.within))))

pub counted_none : {n : ℕ} {f : ℕ → Bool} → Folded count n f 0 0
counted_none {f = f} = folded_none (sym (count_start f))

-- the next one passes, or not
pub count_turn :
    {n i r s : ℕ} {f : ℕ → Bool} → Folded count n f r i → i < n
    → ((f i ≡ true) × (s ≡ r + 1)) ⊎ ((f i ≡ false) × (s ≡ r)) → Folded count n f s (i + 1)
count_turn {i = i} {f = f} h l w = folded_turn h l (⊎_elim
    (λ (e, q). omega (arith, h.so_far, count_yes i f e)) (λ (e, q). omega (arith, h.so_far, count_not i f e)) w)

pub count_low : {n i r : ℕ} {f : ℕ → Bool} → Folded count n f r i → r ≤ i
count_low {i = i} {f = f} h = omega (arith, h.so_far, count_most i f)

pub greatest_none : {n : ℕ} {f : ℕ → ℕ} → Folded greatest n f 0 0
unfolding greatest
greatest_none = folded_none refl

pub greatest_turn :
    {n i r s x : ℕ} {f : ℕ → ℕ} → Folded greatest n f r i → i < n → x ≡ f i → s ≡ max r x
    → Folded greatest n f s (i + 1)
unfolding greatest
greatest_turn h l e q = folded_turn h l (rw (add-one, ← h.so_far, ← e) q)

pub greatest_low :
    {n i r y : ℕ} {f : ℕ → ℕ} → Folded greatest n f r i → ((k : ℕ) → k < n → f k ≤ y) → r ≤ y
greatest_low {i = i} {y = y} {f} h low = rw h.so_far (greatest_le i f y (λ k l. low k (omega (arith, h.within))))

-- the code's or is that of the tests
pub or_is : (a b : Bool) → (a || b) ≡ (a or b)
unfolding ◌or◌
or_is true b = refl
or_is false b = refl

pub either_is : {a b x y : Bool} → a ≡ x → b ≡ y → (a || b) ≡ (x or y)
either_is e f = or_is _ _ ∙ ap₂ ◌or◌ e f

pub scan_none : (f : ℕ → Bool) → false ≡ some 0 f
unfolding some
scan_none f = refl

pub scan_turn : (f : ℕ → Bool) (i : ℕ) (b c : Bool) → b ≡ some i f → c ≡ f i → (b || c) ≡ some (i + 1) f
unfolding some
scan_turn f i b c e h = rw (add-one, ← e, ← h) (or_is b c)

pub some_end : (f : ℕ → Bool) {i n : ℕ} {b : Bool} → b ≡ some i f → i ≤ n → n ≤ i → b ≡ some n f
some_end f e l r = e ∙ ap (λ n. some n f) (le_antisymm l r)

pub some_none : {n : ℕ} {f : ℕ → Bool} → Folded some n f false 0
some_none {f = f} = folded_none (scan_none f)

pub some_turn :
    {n i : ℕ} {f : ℕ → Bool} {b c : Bool} → Folded some n f b i → i < n → c ≡ f i → Folded some n f (b || c) (i + 1)
some_turn {i = i} {f} {b} {c} h l e = folded_turn h l (scan_turn f i b c h.so_far e)

-- the code's test of a number is the limits' one
pub outside_is : (low high x : ℕ) → (ltb x low || ltb high x) ≡ outside low high x
unfolding outside ◌<?◌
outside_is low high x = or_is _ _

-- ---- a loop that stores f i at i: l is l₀ with f k at each k below i

pub record Filled (f : ℕ → ℕ) (l₀ l : List ℕ) (i : ℕ) : Type 0 where
  pub same : length l ≡ length l₀
  pub done : (k : ℕ) → k < i → get_or l k 0 ≡ f k
  pub left : (k : ℕ) → i ≤ k → get_or l k 0 ≡ get_or l₀ k 0

pub filled_none : {f : ℕ → ℕ} {l : List ℕ} → Filled f l l 0
filled_none {f} {l} = record { same = refl; done = below_none (λ k. get_or l k 0 ≡ f k); left = λ k _. refl }

pub filled_more :
    {f : ℕ → ℕ} {l₀ l : List ℕ} {i v : ℕ} → Filled f l₀ l i → i < length l₀ → v ≡ f i → Filled f l₀ (set l i v) (i + 1)
filled_more {f} {l₀} {l} {i} {v} h b e = record {
  same = length-set l i v ∙ h.same;
  done = below_more (λ k. get_or (set l i v) k 0 ≡ f k) i (λ k a. get_or-set_other l i k v 0 (omega arith) ∙ h.done k a)
      (get_or-set_same l i v 0 (omega (arith, h.same)) ∙ e);
  left = λ k a. get_or-set_other l i k v 0 (omega arith) ∙ h.left k (omega arith);
}

-- two lists of n with the same elements are one
pub is_list : (n : ℕ) (f : ℕ → ℕ) (l : List ℕ) → length l ≡ n → ((k : ℕ) → k < n → get_or l k 0 ≡ f k) → l ≡ list n f
is_list n f l e h =
    ext_get_or 0 l (list n f) (e ∙ sym (length_list n f))
    (λ k a. h k (omega arith) ∙ sym (get_d_list n f k (omega arith)))

pub long : (n : ℕ) (f : ℕ → ℕ) {l : List ℕ} → l ≡ list n f → length l ≡ n
long n f e = ap length e ∙ length_list n f

pub element : (n : ℕ) (f : ℕ → ℕ) {l : List ℕ} → l ≡ list n f → (k : ℕ) → k < n → get_or l k 0 ≡ f k
element n f e k lk = ap (λ l. get_or l k 0) e ∙ get_d_list n f k lk

pub relist : (m n : ℕ) (f g : ℕ → ℕ) {l : List ℕ} → l ≡ list m f → m ≡ n → ((k : ℕ) → k < n → f k ≡ g k) → l ≡ list n g
relist m n f g e q h = e ∙ ap (λ n. list n f) q ∙ list_cong n f g h

-- an array of zeros, and the first n of one
pub zeros : (n : ℕ) → replicate n 0 ≡ list n (λ _. 0)
zeros n = is_list _ _ _ (length-replicate {A = ℕ} n 0) (λ k l. get_or-replicate {A = ℕ} n k 0 0 l)

pub zeros_long : (size n : ℕ) → n ≤ size → n ≡ length (take n (replicate {A = ℕ} size 0))
zeros_long size n h = omega (arith, length-take n (replicate {A = ℕ} size 0), length-replicate {A = ℕ} size 0)

pub zeros_are : (size n : ℕ) → n ≤ size → take n (replicate {A = ℕ} size 0) ≡ list n (λ _. 0)
zeros_are size n h =
    is_list n _ _ (sym (zeros_long size n h))
    (λ k l. get_or-take n _ k 0 l ∙ get_or-replicate {A = ℕ} size k 0 0 (omega arith))

pub filled_list : (n : ℕ) {f : ℕ → ℕ} {l₀ l : List ℕ} {i : ℕ} → Filled f l₀ l i → length l₀ ≡ n → n ≤ i → l ≡ list n f
filled_list n h e b = is_list n _ _ (h.same ∙ e) (λ k a. h.done k (omega arith))

-- a table of n filled in order: within it, and the first i stored
pub record Filling (n : ℕ) (f : ℕ → ℕ) (l₀ l : List ℕ) (i : ℕ) : Type 0 where
  pub within : i ≤ n
  pub long : length l₀ ≡ n
  pub filled : Filled f l₀ l i

pub filling_none : {n : ℕ} {f : ℕ → ℕ} {l : List ℕ} → length l ≡ n → Filling n f l l 0
filling_none e = record { within = omega arith; long = e; filled = filled_none }

pub filling_turn :
    {n : ℕ} {f : ℕ → ℕ} {l₀ l : List ℕ} {i v : ℕ} → Filling n f l₀ l i → i < n → v ≡ f i
    → Filling n f l₀ (set l i v) (i + 1)
filling_turn h l e =
    record { within = omega arith; long = h.long; filled = filled_more h.filled (omega (arith, h.long)) e }

pub filling_end : {n : ℕ} {f : ℕ → ℕ} {l₀ l : List ℕ} {i : ℕ} → Filling n f l₀ l i → n ≤ i → l ≡ list n f
filling_end {n} h b = filled_list n h.filled h.long b

-- row i, column j of a table of n rows of m is within the table
pub in_table : (n m i j : ℕ) → i < n → j < m → i * m + j < n * m
in_table n m i j hi hj = omega (arith, mul-le-mul_right m hi)

-- ---- a loop with two tests

-- two tests that pass
pub passes_both : (a b : Bool) → (a && b) ≡ true → (a ≡ true) × (b ≡ true)
passes_both true b e = (refl, e)
passes_both false b e = absurd (clash e refl)
