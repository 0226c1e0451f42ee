-- Numbers in decimal. A text is a list of bytes.
use Rattle.std.specs.Prelude.{ℕ, zero, suc, ◌+◌, ◌/◌, ◌%◌, Bool, true, false, List, [], ◌∷◌, ◌++◌}
use Rattle.model.specs.Counting.{◌<?◌}

-- x in decimal, the highest digit first: digit d is byte 48 + d, and a number below 10 is one digit. A 64-bit
-- number has at most 20
unfoldable pub higher : Bool → List ℕ → List ℕ
higher true ds = []
higher false ds = ds

unfoldable pub digits : (most x : ℕ) → List ℕ
digits zero x = []
digits (suc k) x = higher (x <? 10) (digits k (x / 10)) ++ ((48 + x % 10) ∷ [])

unfoldable pub decimal : ℕ → List ℕ
decimal x = digits 20 x

-- a word and a number
unfoldable pub field : List ℕ → ℕ → List ℕ
field word x = word ++ decimal x
