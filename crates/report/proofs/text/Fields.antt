-- Fields: a word and a number, and how long they are at most.
use Prim.Native.Nat.{ℕ, ◌+◌, ◌^◌, ◌<◌, ◌≤◌}
use mathlib.Core.List.{List}
use native.Mathlib.Omega.{arith}
use lib.ListN.{length, length-append}
use Rattle.model.specs.text.Decimal.{digits, decimal, field}
use Rattle.sheet.specs.Wrote.{Wrote}
use Rattle.report.proofs.text.Decimal.{length_decimal, word_digits}
use Rattle.sheet.proofs.Wrote.{wrote_then}

-- a word and then a number of 64 bits
pub wrote_field :
    {l l' l'' w : List ℕ} {p q r : ℕ} (x : ℕ) → x < 18446744073709551616 → Wrote l p w l' q
    → ((k : ℕ) → x < 10 ^ (k + 1) → Wrote l' q (digits (k + 1) x) l'' r) → Wrote l p (field w x) l'' r
unfolding field decimal
wrote_field x b a f = wrote_then a (f 19 (word_digits x b))

pub length_field : (w : List ℕ) (x : ℕ) → length (field w x) ≤ length w + 20
unfolding field
length_field w x = omega (arith, length-append w (decimal x), length_decimal x)

pub field_end : {l l' : List ℕ} (w : List ℕ) {p q : ℕ} (x : ℕ) → Wrote l p (field w x) l' q → q ≤ p + length w + 20
field_end w x a = omega (arith, a.next, length_field w x)
