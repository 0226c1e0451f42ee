-- What the walk over a word's set bits promises of each call of `next` (`words::SetBits`).
use Rattle.std.specs.Prelude.{ℕ, Option}
use Rattle.std.specs.Iterator.{YieldsFirst}
use Rattle.model.specs.Counting.{passing}
use Rattle.model.specs.sheet.Fields.{has_bit}

-- a step from a word gives the first place of its set bits, in rising order, and leaves a word with the others;
-- where no bit is set it gives none and leaves none
pub record Steps (word : ℕ) (place : Option ℕ) (rest : ℕ) : Type 0 where
  pub given : YieldsFirst (λ word. passing 64 (has_bit word)) word place rest
