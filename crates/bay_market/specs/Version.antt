-- A version's three numbers as one.
use Rattle.std.specs.Prelude.{ℕ, ◌+◌, ◌*◌}

abbrev pub numbered : ℕ → ℕ → ℕ → ℕ
numbered first second third = first * 1_000_000 + second * 1_000 + third
