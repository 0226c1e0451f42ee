-- Lines: what they are made of, and how long they are at most.
use Prim.Native.Nat.{ℕ, zero, suc, ◌+◌, ◌*◌, ◌≤◌}
use mathlib.Core.List.{List, ◌++◌}
use native.Mathlib.Omega.{arith}
use lib.ListN.{length, length-append}
use Rattle.std.proofs.Common.{append_assoc}
use Rattle.model.specs.Counting.{joined}
use Rattle.model.specs.text.Decimal.{field}
use Rattle.sheet.specs.Wrote.{Wrote}
use Rattle.report.proofs.text.Fields.{length_field}
use Rattle.sheet.proofs.Wrote.{wrote_then}
use Rattle.model.specs.text.Lines.{guest_word, at_station_word, charge_word, station_word, sold_word, paid_word}
use Rattle.model.specs.text.Lines.{line_end}
use Rattle.model.specs.text.Lines.{guest_line, station_line, guest_lines, station_lines}

-- a field and the line's end
pub line_end_at :
    {l l' : List ℕ} (w : List ℕ) {p q : ℕ} (x : ℕ) → Wrote l p (field w x ++ line_end) l' q → q ≤ p + length w + 21
line_end_at w x a = omega (arith, a.next, length-append (field w x) line_end, length_field w x)

-- and after another text
pub wrote_line :
    {l l' l'' t : List ℕ} (w : List ℕ) {p q r : ℕ} (x : ℕ) → Wrote l p t l' q
    → Wrote l' q (field w x ++ line_end) l'' r → Wrote l p (t ++ field w x ++ line_end) l'' r
wrote_line {t = t} w x a b = rw (append_assoc t (field w x) line_end) (wrote_then a b)

-- three of them
module _ (a b c : List ℕ) (x y z : ℕ) where
  length_line : length (field a x ++ field b y ++ field c z ++ line_end) ≤ length a + length b + length c + 61
  length_line =
      omega (
        arith,
        length-append (field a x ++ field b y ++ field c z) line_end,
        length-append (field a x ++ field b y) (field c z),
        length-append (field a x) (field b y),
        length_field a x,
        length_field b y,
        length_field c z,
      )

-- lines one after the other, each of at most b bytes
module _ (f : ℕ → List ℕ) (b : ℕ) (short : (k : ℕ) → length (f k) ≤ b) where
  length_joined : (n : ℕ) → length (joined n f) ≤ b * n
  unfolding joined
  length_joined zero = omega arith
  length_joined (suc n) = omega (arith, length-append (joined n f) (f n), length_joined n, short n)

  pub joined_end : {l l' : List ℕ} {p q : ℕ} (n : ℕ) → Wrote l p (joined n f) l' q → q ≤ p + b * n
  joined_end n a = omega (arith, a.next, length_joined n)

pub guest_short : (g s c : ℕ) → length (guest_line g s c) ≤ 84
unfolding guest_line
guest_short g s c = length_line guest_word at_station_word charge_word g s c

pub station_short : (j s p : ℕ) → length (station_line j s p) ≤ 81
unfolding station_line
station_short j s p = length_line station_word sold_word paid_word j s p

pub length_guest_lines : (stations charges : List ℕ) (n : ℕ) → length (guest_lines stations charges n) ≤ 84 * n
unfolding guest_lines
length_guest_lines stations charges n = length_joined _ 84 (λ k. guest_short _ _ _) n

pub length_station_lines : (sold paid : List ℕ) (m : ℕ) → length (station_lines sold paid m) ≤ 81 * m
unfolding station_lines
length_station_lines sold paid m = length_joined _ 81 (λ k. station_short _ _ _) m

pub guest_lines_end :
    {l l' : List ℕ} (stations charges : List ℕ) {p q : ℕ} (n : ℕ)
    → Wrote l p (guest_lines stations charges n) l' q → q ≤ p + 84 * n
unfolding guest_lines
guest_lines_end stations charges n a = joined_end _ 84 (λ k. guest_short _ _ _) n a

pub station_lines_end :
    {l l' : List ℕ} (sold paid : List ℕ) {p q : ℕ} (m : ℕ) → Wrote l p (station_lines sold paid m) l' q → q ≤ p + 81 * m
unfolding station_lines
station_lines_end sold paid m a = joined_end _ 81 (λ k. station_short _ _ _) m a
