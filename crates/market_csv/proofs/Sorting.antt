-- What sorting a byte says.
use Rattle.std.proofs.Common.{◌≡◌, ℕ, ◌<◌, ◌≤◌, true, false, refl, arith}
use Rattle.model.specs.Counting.{◌≤?◌, ◌=?◌, ◌and◌}
use Rattle.model.specs.csv.Places.{comma, cr, lf, is_digit}
use Rattle.model.proofs.Tests.{and_false, is_le, not_le, not_eq}
use Rattle.model.proofs.csv.Steps.{digit_tests}
use Rattle.market_csv.specs.Bytes.{Stray, Sorted}
use Rattle.market_csv.specs.declared.bytes.Kind.{Kind}
use Rattle.market_csv.specs.declared.bytes.Kind.TheVariants.{Digit, Comma, Cr, Lf, Other}

-- ---- the ranges

pub digit_between : (b : ℕ) → 48 ≤ b → b ≤ 57 → is_digit b ≡ true
unfolding is_digit ◌and◌
digit_between b l h = rw (is_le 48 b l, is_le b 57 h) refl

pub no_digit_below : (b : ℕ) → b < 48 → is_digit b ≡ false
unfolding is_digit ◌and◌
no_digit_below b l = rw (not_le 48 b l) refl

pub no_digit_above : (b : ℕ) → 57 < b → is_digit b ≡ false
unfolding is_digit
no_digit_above b h = rw (not_le b 57 h) (and_false _)

pub stray_when :
    (b : ℕ) → is_digit b ≡ false → (b ≡ comma → ⊥) → (b ≡ cr → ⊥) → (b ≡ lf → ⊥) → Stray b
stray_when b d x y z =
    record { no_digit = d; no_comma = not_eq b comma x; no_cr = not_eq b cr y; no_lf = not_eq b lf z }

pub sorted_as : {r : Kind} (b : ℕ) (k : Kind) → Sorted b r → r ≡ k → Sorted b k
sorted_as b k h e = rw e at h

-- ---- a byte that is sorted otherwise

pub no_digit : (b : ℕ) (k : Kind) → ((x : ℕ) → k ≡ Digit x → ⊥) → Sorted b k → is_digit b ≡ false
unfolding Sorted is_digit ◌≤?◌ ◌and◌
no_digit b (Digit d) f h = absurd (f d refl)
no_digit b Comma f h = rw h refl
no_digit b Cr f h = rw h refl
no_digit b Lf f h = rw h refl
no_digit b Other f h = h.no_digit

pub no_feed : (b : ℕ) (k : Kind) → (k ≡ Lf → ⊥) → Sorted b k → b =? lf ≡ false
unfolding Sorted
no_feed b (Digit d) f h = (digit_tests b h.0).2
no_feed b Comma f h = not_eq b lf (λ q. omega arith)
no_feed b Cr f h = not_eq b lf (λ q. omega arith)
no_feed b Lf f h = absurd (f refl)
no_feed b Other f h = h.no_lf

pub no_end : (b : ℕ) (k : Kind) → (k ≡ Comma → ⊥) → (k ≡ Cr → ⊥) → Sorted b k → (b =? comma ≡ false) × (b =? cr ≡ false)
unfolding Sorted
no_end b (Digit d) f g h = let t = digit_tests b h.0 in (t.0, t.1)
no_end b Comma f g h = absurd (f refl)
no_end b Cr f g h = absurd (g refl)
no_end b Lf f g h = (not_eq b comma (λ q. omega arith), not_eq b cr (λ q. omega arith))
no_end b Other f g h = (h.no_comma, h.no_cr)
