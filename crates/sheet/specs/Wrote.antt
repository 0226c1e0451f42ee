-- What functions that write into a lent buffer promise each other.
use Rattle.std.specs.Prelude.{ℕ, ◌+◌, ◌<◌, ◌≤◌, List, ◌≡◌, get_or, length}

-- t stands in the buffer from place p on, the rest is as it was, and q is the place after t
pub record Wrote (l : List ℕ) (p : ℕ) (t : List ℕ) (l' : List ℕ) (q : ℕ) : Type 0 where
  pub same : length l' ≡ length l
  pub here : (k : ℕ) → k < length t → p + k < length l → get_or l' (p + k) 0 ≡ get_or t k 0
  pub low : (k : ℕ) → k < p → get_or l' k 0 ≡ get_or l k 0
  pub high : (k : ℕ) → p + length t ≤ k → get_or l' k 0 ≡ get_or l k 0
  pub next : q ≡ p + length t
