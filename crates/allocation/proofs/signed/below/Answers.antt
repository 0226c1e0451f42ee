use mathlib.Core.Path.{◌≡◌, ap₂}
use Rattle.std.proofs.Common.{ℕ, ◌<◌, ◌^◌, ℤ, pos, to_z, of_z}
use lib.Signed.{lt_z}
use mir.Syntax.{w32}
use mir.ValLaws.{to_z_pos}
use Rattle.model.specs.Counting.{◌<?◌}
use Rattle.allocation.proofs.signed.below.Goals as goal

kept : (r : ℤ) (n : ℕ) → r ≡ pos n → n < 2 ^ 31 → to_z w32 (of_z w32 r) ≡ pos n
kept r n e l = rw e (to_z_pos w32 n l)

pub returns : goal.returns
unfolding ◌<?◌
returns g c = ap₂ lt_z (kept _ _ c.signed.ensures c.requires.0) (kept _ _ c.signed-2.ensures c.requires.1)
