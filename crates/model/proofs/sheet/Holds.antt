-- A list that stands at a place of a sheet; bytes and bit maps there.
use Prim.Native.Nat.{ℕ, zero, suc, ◌+◌, ◌*◌, ◌/◌, ◌^◌, ◌≤◌, ◌<◌}
use mathlib.Core.Bool.{Bool, true, false}
use mathlib.Core.List.{List, [], ◌∷◌, ◌++◌}
use mathlib.Core.Logic.{⊎_elim}
use mathlib.Core.Path.{◌≡◌, refl, ap, ap₂, ◌∙◌}
use native.Mathlib.Nat.{not-suc-le-zero, eq-or-lt_of_le, le_of_suc-le-suc}
use native.Mathlib.Omega.{arith}
use lib.ListN.{length, get_or, length-append}
use lib.Pow.{pow_mono}
use lib.Seq.{ext_get_or}
use Rattle.model.specs.Counting.{◌=?◌, only, joined}
use Rattle.model.proofs.Counting.{up, here}
use Rattle.model.proofs.Tests.{is_eq, not_eq, only_le}
use Rattle.model.specs.sheet.Fields.{little_endian, map_width, has_bit}
use Rattle.model.proofs.sheet.Fields.{bytes_pow, bit_is, next_bit}
use Rattle.model.specs.sheet.Layout.{bytes_of, pack, Bytes}

-- xs stands at p in s
abbrev pub Holds : List ℕ → ℕ → List ℕ → Type 0
Holds s p [] = Unit
Holds s p (x ∷ xs) = (get_or s p 0 ≡ x) × Holds s (p + 1) xs

holds_append : (s : List ℕ) (p : ℕ) (xs ys : List ℕ) → Holds s p xs → Holds s (p + length xs) ys → Holds s p (xs ++ ys)
holds_append s p [] ys h g = let e : p + 0 ≡ p = omega arith in rw e at g
holds_append s p (x ∷ xs) ys h g =
    let e : p + suc (length xs) ≡ p + 1 + length xs = omega arith in
    (h.0, holds_append s (p + 1) xs ys h.1 (rw e at g))

pub holds_left : (s : List ℕ) (p : ℕ) (xs ys : List ℕ) → Holds s p (xs ++ ys) → Holds s p xs
holds_left s p [] ys h = tt
holds_left s p (x ∷ xs) ys h = (h.0, holds_left s (p + 1) xs ys h.1)

holds_right : (s : List ℕ) (p : ℕ) (xs ys : List ℕ) → Holds s p (xs ++ ys) → Holds s (p + length xs) ys
holds_right s p [] ys h = let e : p + 0 ≡ p = omega arith in rw e h
holds_right s p (x ∷ xs) ys h =
    let e : p + suc (length xs) ≡ p + 1 + length xs = omega arith in
    rw e (holds_right s (p + 1) xs ys h.1)

-- the same, with the place of what follows
pub holds_then :
    (s : List ℕ) (p q : ℕ) (xs ys : List ℕ) → Holds s p xs → p + length xs ≡ q → Holds s q ys → Holds s p (xs ++ ys)
holds_then s p q xs ys h e g = holds_append s p xs ys h (rw e g)

pub holds_next : (s : List ℕ) (p q : ℕ) (xs ys : List ℕ) → p + length xs ≡ q → Holds s p (xs ++ ys) → Holds s q ys
holds_next s p q xs ys e h = rw e at (holds_right s p xs ys h)

holds_at : (s : List ℕ) (p : ℕ) (xs : List ℕ) → Holds s p xs → (k : ℕ) → k < length xs
    → get_or s (p + k) 0 ≡ get_or xs k 0
holds_at s p [] h k l = absurd (not-suc-le-zero l)
holds_at s p (x ∷ xs) h zero l = let e : p + 0 ≡ p = omega arith in rw e h.0
holds_at s p (x ∷ xs) h (suc k) l =
    let e : p + suc k ≡ p + 1 + k = omega arith in
    rw e (holds_at s (p + 1) xs h.1 k (le_of_suc-le-suc l))

-- the whole sheet
pub holds_all : (s xs : List ℕ) → Holds s 0 xs → length s ≡ length xs → s ≡ xs
holds_all s xs h e =
    ext_get_or 0 s xs e (λ k l. let z : 0 + k ≡ k = omega arith in rw z at (holds_at s 0 xs h k (rw e at l)))

holds_from : (s ys : List ℕ) (p : ℕ) → ((k : ℕ) → get_or s (p + k) 0 ≡ get_or ys k 0) → Holds s p ys
holds_from s [] p h = tt
holds_from s (y ∷ ys) p h =
    let e : p + 0 ≡ p = omega arith in
    (rw e at (h 0), holds_from s ys (p + 1) (λ k. let f : p + 1 + k ≡ p + suc k = omega arith in rw f (h (suc k))))

pub holds_self : (s : List ℕ) → Holds s 0 s
holds_self s = holds_from s s 0 (λ k. let e : 0 + k ≡ k = omega arith in rw e refl)

-- ---- bytes

pub bytes_length : (k x : ℕ) → length (bytes_of k x) ≡ k
unfolding bytes_of
bytes_length zero x = refl
bytes_length (suc k) x = ap suc (bytes_length k (x / 256))

pub holds_number : (s : List ℕ) (p k x : ℕ) → x < 256 ^ k → Holds s p (bytes_of k x) → little_endian s p k ≡ x
unfolding bytes_of little_endian
holds_number s p zero x h g = omega arith
holds_number s p (suc k) x h g = omega (arith, g.0, holds_number s (p + 1) k (x / 256) (omega arith) g.1)

pub number_holds : (s : List ℕ) → Bytes s → (p k x : ℕ) → little_endian s p k ≡ x → Holds s p (bytes_of k x)
unfolding bytes_of little_endian
number_holds s b p zero x e = tt
number_holds s b p (suc k) x e = (omega (arith, b p), number_holds s b (p + 1) k (x / 256) (omega (arith, b p)))

-- ---- one list after the other, f i at P i
module _ (s : List ℕ) (P : ℕ → ℕ) (f : ℕ → List ℕ) where
  pub joined_place : (n : ℕ) → ((i : ℕ) → i < n → P (suc i) ≡ P i + length (f i)) → P n ≡ P 0 + length (joined n f)
  unfolding joined
  joined_place zero step = omega arith
  joined_place (suc n) step = simp length-append (omega (arith, step n here, joined_place n (λ i l. step i (up l))))

  pub joined_holds :
      (n : ℕ) → ((i : ℕ) → i < n → P (suc i) ≡ P i + length (f i)) → ((i : ℕ) → i < n → Holds s (P i) (f i))
      → Holds s (P 0) (joined n f)
  unfolding joined
  joined_holds zero step h = tt
  joined_holds (suc n) step h =
      holds_append s (P 0) (joined n f) (f n) (joined_holds n (λ i l. step i (up l)) (λ i l. h i (up l)))
      (rw (joined_place n (λ i l. step i (up l))) at (h n here))

  -- here a step may lean on what stands there
  pub joined_each :
      (n : ℕ) → ((i : ℕ) → i < n → Holds s (P i) (f i) → P (suc i) ≡ P i + length (f i)) → Holds s (P 0) (joined n f)
      → (i : ℕ) → i < n → Holds s (P i) (f i)
  unfolding joined
  joined_each zero step h i l = absurd (not-suc-le-zero l)
  joined_each (suc n) step h i l =
      let before : (i : ℕ) → i < n → Holds s (P i) (f i) = joined_each n (λ i l. step i (up l))
      (holds_left s (P 0) (joined n f) (f n) h) in
      let place : P n ≡ P 0 + length (joined n f) = joined_place n (λ i l. step i (up l) (before i l)) in
      ⊎_elim
      (λ (e : i ≡ n). rw (e, place) (holds_right s (P 0) (joined n f) (f n) h))
      (λ (m : i < n). before i m)
      (eq-or-lt_of_le (le_of_suc-le-suc l))

-- ---- bit maps

bit_low : (b : Bool) → only b 1 ≤ 1
bit_low b = only_le b 1 1 (λ e. omega arith)

bit_test : (b : Bool) (y : ℕ) → y ≡ only b 1 → (y =? 1) ≡ b
unfolding only
bit_test true y e = is_eq y 1 e
bit_test false y e = not_eq y 1 (λ z. omega arith)

module _ (m : ℕ) (b : ℕ → Bool) where
  rest : pack (suc m) b / 2 ≡ pack m (λ j. b (suc j))
  unfolding pack
  rest = omega (arith, bit_low (b 0))

  low : has_bit (pack (suc m) b) 0 ≡ b 0
  unfolding pack has_bit
  low = bit_test (b 0) _ (omega (arith, bit_low (b 0)))

pub pack_bit : (m : ℕ) (b : ℕ → Bool) (j : ℕ) → j < m → has_bit (pack m b) j ≡ b j
pack_bit zero b j l = absurd (not-suc-le-zero l)
pack_bit (suc m) b zero l = low m b
pack_bit (suc m) b (suc j) l =
    next_bit _ j ∙ ap (λ x. has_bit x j) (rest m b) ∙ pack_bit m (λ j. b (suc j)) j (le_of_suc-le-suc l)

pub pack_low : (m : ℕ) (b : ℕ → Bool) → pack m b < 2 ^ m
unfolding pack
pack_low zero b = omega arith
pack_low (suc m) b = omega (arith, bit_low (b 0), pack_low m (λ j. b (suc j)))

pub pack_cong : (m : ℕ) (a b : ℕ → Bool) → ((j : ℕ) → j < m → a j ≡ b j) → pack m a ≡ pack m b
unfolding pack
pack_cong zero a b h = refl
pack_cong (suc m) a b h =
    ap₂ (λ x y. only x 1 + 2 * y) (h 0 (omega arith))
    (pack_cong m (λ j. a (suc j)) (λ j. b (suc j)) (λ j l. h (suc j) (omega arith)))

-- a map with no bit from m on is the map of its bits
pub pack_bits : (m x : ℕ) → x < 2 ^ m → pack m (has_bit x) ≡ x
unfolding pack
pack_bits zero x h = omega arith
pack_bits (suc m) x h =
    omega (
      arith,
      bit_is x 0,
      pack_cong m (λ j. has_bit x (suc j)) (has_bit (x / 2)) (λ j _. next_bit x j),
      pack_bits m (x / 2) (omega arith),
    )

pub pack_fits : (m : ℕ) (b : ℕ → Bool) → pack m b < 256 ^ map_width m
unfolding map_width
pack_fits m b =
    omega (arith, pack_low m b, pow_mono {i = m} {j = 8 * ((m + 7) / 8)} (omega arith), bytes_pow ((m + 7) / 8))
