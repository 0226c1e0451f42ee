-- What writing into an output promises.
use Rattle.std.specs.Prelude.{ℕ, List, ◌≡◌}
use Rattle.sheet.specs.Wrote.{Wrote}
use Rattle.sheet.specs.declared.putting.Output.{Output}

-- t is written from the place reached on
pub record Put (from : Output) (t : List ℕ) (to : Output) : Type 0 where
  pub wrote : Wrote from.out.now from.at t to.out.now to.at
  pub same : to.out.ghost_name ≡ from.out.ghost_name
