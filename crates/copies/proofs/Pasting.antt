-- Laws of a list that is written over a table, element by element.
use Prim.Native.Nat.{ℕ, ◌+◌, ◌≤◌, ◌<◌}
use mathlib.Core.List.{List}
use mathlib.Core.Path.{◌≡◌, ap, ◌∙◌}
use native.Mathlib.Numerals.{add-one}
use native.Mathlib.Omega.{arith}
use lib.ListN.{get_or, length, set}
use lib.Seq.{paste, paste-zero, paste-suc, length-paste}

-- the first n of a list over the places from `at` on: i of them stand there
pub record Pasting {A : Type 0} (from table₀ table : List A) (at n i : ℕ) : Type 0 where
  pub within : i ≤ n
  pub from_long : n ≤ length from
  pub room : at + n ≤ length table₀
  pub is : table ≡ paste table₀ at from i

pub pasting_none :
    {A : Type 0} {from table : List A} {at n : ℕ} → (n ≤ length from) × (at + n ≤ length table)
    → Pasting from table table at n 0
pasting_none {from = from} {table = table} {at = at} (long, room) =
    record { within = omega arith; from_long = long; room = room; is = paste-zero table at from }

module _ {A : Type 0} {from table₀ table : List A} {at n i : ℕ} (s : Pasting from table₀ table at n i) where
  pub pasting_same : length table ≡ length table₀
  pasting_same =
      ap length s.is
      ∙ length-paste table₀ at from i (omega (arith, s.within, s.room)) (omega (arith, s.within, s.from_long))

  pub pasting_turn :
      {x : A} (d : A) → i < n → x ≡ get_or from i d → Pasting from table₀ (set table (at + i) x) at n (i + 1)
  pasting_turn d l e = record {
    within = omega arith;
    from_long = s.from_long;
    room = s.room;
    is = rw (s.is, add-one, e) (paste-suc table₀ at from i d (omega (arith, s.room)) (omega (arith, s.from_long)));
  }

  pub pasting_end : n ≤ i → table ≡ paste table₀ at from n
  pasting_end l = let whole : i ≡ n = omega (arith, s.within) in rw (← whole) s.is
