-- What running over digits promises.
use Rattle.std.specs.Prelude.{◌≡◌, ℕ, ◌-◌, ◌%◌, ◌^◌, ◌<◌, ◌≤◌, false, List, length, slice_index, Option, None, Some}
use Rattle.model.specs.csv.Places.{is_digit, digits_of, value_of}
use Rattle.market_csv.specs.Reached.{past}
use Rattle.market_csv.specs.Bytes.{Sorted}
use Rattle.market_csv.specs.declared.bytes.Kind.{Kind}

-- the bytes between two places are digits, and value is their number modulo 2^64
pub record Running (s : List ℕ) (from value at : ℕ) : Type 0 where
  pub after : from ≤ at
  pub within : at ≤ length s
  pub digits_are : digits_of (past s at) ≡ at - from
  pub value_is : value ≡ value_of (past s at) % 2 ^ 64

-- and no digit follows
pub record Ran (s : List ℕ) (from value end : ℕ) : Type 0 where
  pub running : Running s from value end
  pub no_digit : end < length s → is_digit (slice_index s end) ≡ false

-- what stands at a place, sorted; nothing past the end
unfoldable pub Found : List ℕ → (at : ℕ) → Option Kind → Type 0
Found s at None = length s ≤ at
Found s at (Some kind) = (at < length s) × Sorted (slice_index s at) kind
