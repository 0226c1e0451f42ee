-- Numbers in bytes that are taken out of a sheet.
use Prim.Native.Nat.{ℕ, zero, suc, ◌+◌, ◌-◌, ◌≤◌, ◌<◌}
use mathlib.Core.List.{List, ◌++◌}
use mathlib.Core.Path.{◌≡◌, refl, sym, ap, ◌∙◌}
use native.Mathlib.Omega.{arith}
use lib.ListN.{get_or, length, drop, replicate, get_or-replicate, get_or-append, get_or-eq_default, length-take}
use lib.ListN.{length-drop}
use lib.Seq.{get_or-take, get_or-drop, get_or-append-add}
use Rattle.model.proofs.Tests.{lt_or_le}
use mathlib.Core.Logic.{⊎_elim}
use Rattle.std.specs.List.{slice_range}
use Rattle.std.specs.Int.{w16, w32, w64, from_le_bytes}
use Rattle.model.specs.sheet.Fields.{little_endian}

-- k bytes of one list are those of another
pub same_number :
    (s t : List ℕ) (p q k : ℕ) → ((i : ℕ) → i < k → get_or s (p + i) 0 ≡ get_or t (q + i) 0)
    → little_endian s p k ≡ little_endian t q k
unfolding little_endian
same_number s t p q zero h = refl
same_number s t p q (suc k) h =
    let first : get_or s p 0 ≡ get_or t q 0 =
    let a : p + 0 ≡ p = omega arith in let b : q + 0 ≡ q = omega arith in rw (a, b) at (h 0 (omega arith)) in
    let rest : little_endian s (p + 1) k ≡ little_endian t (q + 1) k =
    same_number s t (p + 1) (q + 1) k (λ i l.
    let a : p + suc i ≡ p + 1 + i = omega arith in let b : q + suc i ≡ q + 1 + i = omega arith in
    rw (a, b) at (h (suc i) (omega arith))) in
    omega (arith, first, rest)

-- a part of a sheet
pub in_part :
    (s : List ℕ) (p n i k : ℕ) → i + k ≤ n
    → little_endian (slice_range s p (p + n)) i k ≡ little_endian s (p + i) k
in_part s p n i k l =
    same_number _ _ i (p + i) k (λ j lj.
    get_or-take (p + n - p) (drop p s) (i + j) 0 (omega arith)
    ∙ get_or-drop p s (i + j) 0 ∙ ap (λ x. get_or s x 0) (omega arith))

pub part_long : (s : List ℕ) (p n : ℕ) → p + n ≤ length s → length (slice_range s p (p + n)) ≡ n
part_long s p n h = omega (arith, length-take (p + n - p) (drop p s), length-drop p s)

pub whole_part :
    (s : List ℕ) (p n : ℕ) {b : List ℕ} → b ≡ slice_range s p (p + n) → little_endian b 0 n ≡ little_endian s p n
whole_part s p n e =
    ap (λ b. little_endian b 0 n) e ∙ in_part s p n 0 n (omega arith) ∙ ap (λ q. little_endian s q n) (omega arith)

pub two_bytes : (s : List ℕ) → from_le_bytes w16 s ≡ little_endian s 0 2
unfolding little_endian
two_bytes s = omega arith

pub four_bytes : (s : List ℕ) → from_le_bytes w32 s ≡ little_endian s 0 4
unfolding little_endian
four_bytes s = omega arith

pub eight_bytes : (s : List ℕ) → from_le_bytes w64 s ≡ little_endian s 0 8
unfolding little_endian
eight_bytes s = omega arith

-- zeros that follow
none : (s : List ℕ) (p k : ℕ) → ((i : ℕ) → p ≤ i → get_or s i 0 ≡ 0) → little_endian s p k ≡ 0
unfolding little_endian
none s p zero h = refl
none s p (suc k) h = omega (arith, h p (omega arith), none s (p + 1) k (λ i l. h i (omega arith)))

pub padded :
    (s : List ℕ) (p k n : ℕ) → ((i : ℕ) → p + k ≤ i → get_or s i 0 ≡ 0)
    → little_endian s p (k + n) ≡ little_endian s p k
unfolding little_endian
padded s p zero n h = ap (little_endian s p) (omega arith) ∙ none s p n (λ i l. h i (omega arith))
padded s p (suc k) n h =
    let e : suc k + n ≡ suc (k + n) = omega arith in
    rw e (omega (arith, padded s (p + 1) k n (λ i l. h i (omega arith))))

-- n bytes in a word
pub in_word :
    (b : List ℕ) (n : ℕ) → n ≤ 8 → length b ≡ n
    → from_le_bytes w64 (b ++ drop n (replicate 8 0)) ≡ little_endian b 0 n
in_word b n h e =
    let word = b ++ drop n (replicate 8 0) in
    let whole : n + (8 - n) ≡ 8 = omega arith in
    eight_bytes word ∙ ap (little_endian word 0) (sym whole) ∙ padded word 0 n (8 - n) (λ i l. beyond i (omega arith))
    ∙ same_number word b 0 0 n (λ i l. get_or-append b _ 0 (0 + i) (omega arith))
  where
    zero_at : (i : ℕ) → get_or (replicate {A = ℕ} 8 0) i 0 ≡ 0
    zero_at i = ⊎_elim
        (λ (l : i < 8). get_or-replicate {A = ℕ} 8 i 0 0 l)
        (λ (l : 8 ≤ i). get_or-eq_default (replicate {A = ℕ} 8 0) 0 l)
        (lt_or_le i 8)

    beyond : (i : ℕ) → n ≤ i → get_or (b ++ drop n (replicate 8 0)) i 0 ≡ 0
    beyond i l =
        let f : i ≡ length b + (i - n) = omega arith in
        ap (λ x. get_or (b ++ drop n (replicate 8 0)) x 0) f ∙ get_or-append-add b _ (i - n) 0
        ∙ get_or-drop n (replicate 8 0) (i - n) 0 ∙ zero_at _
