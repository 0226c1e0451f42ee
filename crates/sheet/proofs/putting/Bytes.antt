-- Numbers as bytes.
use Prim.Native.Nat.{ℕ, zero, suc, ◌/◌, ◌%◌, ◌^◌, ◌≤◌}
use mathlib.Core.List.{◌∷◌}
use mathlib.Core.Path.{◌≡◌, refl, sym, ap, ap₂, ◌∙◌}
use native.Mathlib.Nat.{div-div-eq-div-mul}
use native.Mathlib.Omega.{arith}
use lib.ListN.{take}
use Rattle.std.specs.Int.{w16, w32, w64, to_le_bytes, bytes_low_first, byte_at}
use Rattle.model.specs.sheet.Layout.{bytes_of}

byte_is : (i x : ℕ) → byte_at i x ≡ x / 256 ^ i % 256
byte_is zero x = let e : x / 256 ^ 0 ≡ x = omega arith in rw e refl
byte_is (suc i) x = refl

-- from byte i on
low_first : (i k x : ℕ) → bytes_low_first i k x ≡ bytes_of k (x / 256 ^ i)
unfolding bytes_of
low_first i zero x = refl
low_first i (suc k) x =
    let next : x / 256 ^ suc i ≡ x / 256 ^ i / 256 =
    sym (div-div-eq-div-mul x (256 ^ i) 256 ∙ ap (λ y. x / y) (omega arith)) in
    ap₂ (λ b bs. b ∷ bs) (byte_is i x) (low_first (suc i) k x ∙ ap (bytes_of k) next)

all_bytes : (k x : ℕ) → bytes_low_first 0 k x ≡ bytes_of k x
all_bytes k x = low_first 0 k x ∙ ap (bytes_of k) (omega arith)

pub two_bytes : (x : ℕ) → to_le_bytes w16 x ≡ bytes_of 2 x
two_bytes x = all_bytes 2 x

pub four_bytes : (x : ℕ) → to_le_bytes w32 x ≡ bytes_of 4 x
four_bytes x = all_bytes 4 x

take_bytes : (k n x : ℕ) → k ≤ n → take k (bytes_of n x) ≡ bytes_of k x
unfolding bytes_of
take_bytes zero n x h = refl
take_bytes (suc k) zero x h = absurd (omega arith)
take_bytes (suc k) (suc n) x h = ap (λ bs. x % 256 ∷ bs) (take_bytes k n (x / 256) (omega arith))

-- the lowest k
pub first_bytes : (k x : ℕ) → k ≤ 8 → take k (to_le_bytes w64 x) ≡ bytes_of k x
first_bytes k x h = ap (take k) (all_bytes 8 x) ∙ take_bytes k 8 x h
