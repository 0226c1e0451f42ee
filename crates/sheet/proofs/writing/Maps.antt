-- The map of a row, from the last station to the first.
use Prim.Native.Nat.{ℕ, suc, ◌+◌, ◌*◌, ◌-◌, ◌≤◌, ◌<◌}
use mathlib.Core.Bool.{Bool, true, false}
use mathlib.Core.Path.{◌≡◌, refl, sym, ◌∙◌}
use native.Mathlib.Nat.{le_refl}
use native.Mathlib.Omega.{arith}
use lib.Pow.{pow_mono}
use mir.Val.{bool_byte}
use Rattle.model.specs.Limits.{max_stations}
use Rattle.model.specs.Counting.{◌<?◌, only}
use Rattle.model.specs.sheet.Layout.{pack}
use Rattle.model.proofs.Tests.{only_le}
use Rattle.model.proofs.sheet.Holds.{pack_cong, pack_low}
use Rattle.sheet.specs.Laid.{row_map}

-- a test as a number
pub bit_of : (b : Bool) → bool_byte b ≡ only b 1
unfolding only
bit_of true = refl
bit_of false = refl

-- the bits from station k on
abbrev pub map_from : (m : ℕ) (bid : ℕ → ℕ) (k : ℕ) → ℕ
map_from m bid k = pack (m - k) (λ j. 0 <? bid (k + j))

pub map_none : (m : ℕ) (bid : ℕ → ℕ) → 0 ≡ map_from m bid m
unfolding pack
map_none m bid = let e : m - m ≡ 0 = omega arith in rw e refl

pub map_turn :
    (m : ℕ) (bid : ℕ → ℕ) (k x y : ℕ) → 0 < k → k ≤ m → x ≡ map_from m bid k → y ≡ only (0 <? bid (k - 1)) 1
    → 2 * x + y ≡ map_from m bid (k - 1)
unfolding pack
map_turn m bid k x y h l e f =
    let longer : m - (k - 1) ≡ suc (m - k) = omega arith in
    let first : k - 1 + 0 ≡ k - 1 = omega arith in
    let later : pack (m - k) (λ j. 0 <? bid (k - 1 + suc j)) ≡ x =
    pack_cong (m - k) _ _ (λ j _. let z : k - 1 + suc j ≡ k + j = omega arith in rw z refl) ∙ sym e in
    rw (longer, first) (omega (arith, f, later))

pub map_end : (m : ℕ) (bid : ℕ → ℕ) (k x : ℕ) → k ≤ 0 → x ≡ map_from m bid k → x ≡ row_map m bid
unfolding row_map
map_end m bid k x h e =
    let z : k ≡ 0 = omega arith in
    let w : m - 0 ≡ m = omega arith in
    rw (z, w) at e ∙ pack_cong m _ _ (λ j _. let q : 0 + j ≡ j = omega arith in rw q refl)

-- a map fits its word with a place to spare
pub map_fits : (m : ℕ) (bid : ℕ → ℕ) (k x : ℕ) → m ≤ max_stations → x ≡ map_from m bid k → x < 1099511627776
map_fits m bid k x h e =
    omega (arith, pack_low (m - k) (λ j. 0 <? bid (k + j)), pow_mono {i = m - k} {j = 40} (omega arith))

pub bit_low : (b : Bool) {y : ℕ} → y ≡ only b 1 → y ≤ 1
bit_low b e = omega (arith, only_le b 1 1 (λ _. le_refl 1))
