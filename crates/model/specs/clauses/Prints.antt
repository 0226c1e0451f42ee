-- A printed page in a lent buffer.
use Rattle.std.specs.Prelude.{ℕ, ◌≤◌, min, List, ◌≡◌, length}
use Rattle.std.proofs.Math.Seq.{paste}
use Rattle.model.specs.Limits.{max_page}

-- the contract of `report::print_page`, and of what it calls: the buffer holds the text as far as it reaches, and the
-- answer is the text's length
pub record Prints (t out : List ℕ) (r : ℕ) (out' : List ℕ) : Type 0 where
  pub buffer_is : out' ≡ paste out 0 t (min (length t) (length out))
  pub length_is : r ≡ length t
  pub fits : r ≤ max_page
