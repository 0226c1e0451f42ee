-- Moves of a cursor.
use Prim.Native.Nat.{ℕ, ◌+◌, ◌≤◌}
use mathlib.Core.Path.{◌≡◌, refl, ap, ap₂, ◌∙◌}
use native.Mathlib.Omega.{arith}
use lib.ListN.{length}
use Rattle.model.specs.sheet.Fields.{little_endian}
use Rattle.sheet.specs.Taken.{Moved, Taken}
use Rattle.sheet.specs.declared.fields.Cursor.{Cursor}

pub moved_none : (r : Cursor) → Moved r 0 r
moved_none r = record { place = omega arith; sheet = refl }

module _ {from to : Cursor} {j : ℕ} (m : Moved from j to) where
  pub moved_then : {to' : Cursor} {k : ℕ} → Moved to k to' → Moved from (j + k) to'
  moved_then t = record { place = omega (arith, m.place, t.place); sheet = t.sheet ∙ m.sheet }

  pub moved_by : {k : ℕ} → j ≡ k → Moved from k to
  moved_by e = rw (← e) m

  -- room where there was room
  pub room_after : (k : ℕ) → from.at + (j + k) ≤ length from.sheet.now → to.at + k ≤ length to.sheet.now
  room_after k h = omega (arith, m.place, ap length m.sheet)

  -- the field that is taken then
  pub taken_after :
      {to' : Cursor} {k x : ℕ} → Taken to k x to' → x ≡ little_endian from.sheet.now (from.at + j) k
  taken_after {k = k} t = t.value ∙ ap₂ (λ s p. little_endian s p k) m.sheet m.place
