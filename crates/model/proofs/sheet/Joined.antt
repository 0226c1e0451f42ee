-- Laws of lists that stand one after the other.
use Prim.Native.Nat.{ℕ, zero, suc, ◌+◌, ◌*◌, ◌/◌, ◌%◌, ◌≤◌, ◌<◌}
use mathlib.Core.List.{List, [], ◌++◌, append-nil}
use mathlib.Core.Logic.{⊎_elim}
use mathlib.Core.Path.{◌≡◌, refl, sym, ap, ap₂, ◌∙◌}
use native.Mathlib.Nat.{eq-or-lt_of_le, le_of_suc-le-suc, not-suc-le-zero, mul-le-mul_right, le_trans, le_of_eq}
use native.Mathlib.Nat.{div-add-mod', div-lt_iff_lt-mul, mod-lt}
use native.Mathlib.Omega.{arith}
use lib.ListN.{length, get_or, take, drop, length-append, get_or-append}
use lib.Seq.{get_or-append-add, ext_get_or, paste, take_at, take_all, drop_at, drop-drop}
use Rattle.model.specs.Counting.{list, joined}
use Rattle.model.proofs.Counting.{up, here, length_list, get_d_list}
use Rattle.model.proofs.Tests.{lt_or_le}

pub joined_length : (n m : ℕ) (f : ℕ → ℕ → ℕ) → length (joined n (λ i. list m (f i))) ≡ n * m
unfolding joined
joined_length zero m f = omega arith
joined_length (suc n) m f = simp (length-append, length_list) (omega (arith, joined_length n m f))

-- what stands in row i at place j
pub get_d_joined :
    (n m : ℕ) (f : ℕ → ℕ → ℕ) (i j : ℕ) → i < n → j < m → get_or (joined n (λ i. list m (f i))) (i * m + j) 0 ≡ f i j
unfolding joined
get_d_joined zero m f i j l k = absurd (not-suc-le-zero l)
get_d_joined (suc n) m f i j l k = ⊎_elim
    (λ (e : i ≡ n). rw e (ap (λ z. get_or (joined n (λ i. list m (f i)) ++ list m (f n)) (z + j) 0)
    (sym (joined_length n m f))
    ∙ get_or-append-add (joined n (λ i. list m (f i))) (list m (f n)) j 0 ∙ get_d_list m (f n) j k))
    (λ (h : i < n). get_or-append (joined n (λ i. list m (f i))) _ 0 (i * m + j)
    (omega (arith, joined_length n m f, mul-le-mul_right m h)) ∙ get_d_joined n m f i j h k)
    (eq-or-lt_of_le (le_of_suc-le-suc l))

-- a list with those places is it
pub joined_is :
    (n m : ℕ) (f : ℕ → ℕ → ℕ) (l : List ℕ) → 0 < m → length l ≡ n * m
    → ((i j : ℕ) → i < n → j < m → f i j ≡ get_or l (i * m + j) 0) → joined n (λ i. list m (f i)) ≡ l
joined_is n m f l z e h = ext_get_or 0 (joined n (λ i. list m (f i))) l (joined_length n m f ∙ sym e) (λ k b.
    let i : k / m < n = (div-lt_iff_lt-mul z).1 (omega (arith, joined_length n m f)) in
    let j : k % m < m = mod-lt k z in
    rw (div-add-mod' k m) at (get_d_joined n m f (k / m) (k % m) i j ∙ h (k / m) (k % m) i j))

-- every place is that of some row
pub joined_most :
    (n m : ℕ) (f : ℕ → ℕ → ℕ) (y : ℕ) → ((i j : ℕ) → i < n → j < m → f i j ≤ y)
    → (k : ℕ) → k < length (joined n (λ i. list m (f i))) → get_or (joined n (λ i. list m (f i))) k 0 ≤ y
joined_most n m f y h k l =
    let within : k < n * m = omega (arith, joined_length n m f) in
    ⊎_elim
    (λ (some : 0 < m).
    let row = (div-lt_iff_lt-mul some).1 within in
    let place = mod-lt k some in
    rw (div-add-mod' k m) at (le_trans (le_of_eq (get_d_joined n m f (k / m) (k % m) row place)) (h _ _ row place)))
    (λ (none : m ≤ 0). let e : m ≡ 0 = omega arith in absurd (omega (arith, rw e at within)))
    (lt_or_le 0 m)

pub joined_cong : (n : ℕ) (f g : ℕ → List ℕ) → ((i : ℕ) → i < n → f i ≡ g i) → joined n f ≡ joined n g
unfolding joined
joined_cong zero f g h = refl
joined_cong (suc n) f g h = ap₂ ◌++◌ (joined_cong n f g (λ i l. h i (up l))) (h n here)

-- where the lists from p to q are empty
pub joined_gap :
    (f : ℕ → List ℕ) (p q : ℕ) → p ≤ q → ((i : ℕ) → p ≤ i → i < q → f i ≡ []) → joined q f ≡ joined p f
unfolding joined
joined_gap f p zero l h = let e : p ≡ 0 = omega arith in rw e refl
joined_gap f p (suc q) l h = ⊎_elim
    (λ (e : p ≡ suc q). rw e refl)
    (λ (g : p < suc q). rw (h q (le_of_suc-le-suc g) here)
    (append-nil (joined q f) ∙ joined_gap f p q (le_of_suc-le-suc g) (λ i a b. h i a (up b))))
    (eq-or-lt_of_le l)

-- a row over the places after x
pub paste_next :
    (x d r : List ℕ) (k m : ℕ) → length x ≡ k → length r ≡ m → paste (x ++ drop k d) k r m ≡ x ++ r ++ drop (k + m) d
paste_next x d r k m at long =
    ap (λ l. l ++ take m r ++ drop (k + m) (x ++ drop k d)) (take_at x (drop k d) k at)
    ∙ ap (λ l. x ++ l ++ drop (k + m) (x ++ drop k d)) (take_all m r (omega arith))
    ∙ ap (λ l. x ++ r ++ l)
    (sym (drop-drop m k (x ++ drop k d)) ∙ ap (drop m) (drop_at x (drop k d) k at) ∙ drop-drop m k d)
