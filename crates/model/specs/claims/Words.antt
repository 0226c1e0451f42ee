-- Document 02, request 5: what the calls of a whole walk over a word give, for every word of 64 bits.
-- Each statement is a type; its proof is a term of proofs/.
use Rattle.std.specs.Prelude.{ℕ, ◌^◌, ◌<◌, true, List, [], ◌∷◌, ◌≡◌, get_or, length, Some, None}
use Rattle.model.specs.Counting.{count, passing}
use Rattle.model.specs.sheet.Fields.{has_bit}
use Rattle.model.specs.clauses.Steps.{Steps}

-- 'the place of each once, in rising order, and no other'
pub record PlacesOf (word : ℕ) (places : List ℕ) : Type 0 where
  pub each : (j : ℕ) → has_bit word j ≡ true → (k : ℕ) × (k < length places) × (get_or places k 0 ≡ j)
  pub rising : (i k : ℕ) → i < k → k < length places → get_or places i 0 < get_or places k 0
  pub no_other : (k : ℕ) → k < length places → has_bit word (get_or places k 0) ≡ true
  pub counted : length places ≡ count 64 (has_bit word)

-- the list that the contract of the walk over a word cites
abbrev pub PassingArePlaces : Type 0
PassingArePlaces = (word : ℕ) → word < 2 ^ 64 → PlacesOf word (passing 64 (has_bit word))

-- no two words have one list: what a step leaves is the word without the place that it gives, and no other
abbrev pub PlacesDetermineWord : Type 0
PlacesDetermineWord =
    (v w : ℕ) → v < 2 ^ 64 → w < 2 ^ 64 → passing 64 (has_bit v) ≡ passing 64 (has_bit w) → v ≡ w

-- the calls of a walk, each on the word that the one before left, up to the one that gives no place; and their places
pub data Walked : ℕ → List ℕ → Type 0 where
  end : {word rest : ℕ} → Steps word None rest → Walked word []
  place :
      {word j rest : ℕ} {places : List ℕ} → Steps word (Some j) rest → Walked rest places
      → Walked word (j ∷ places)

abbrev pub WalkGivesPlaces : Type 0
WalkGivesPlaces = (word : ℕ) (places : List ℕ) → word < 2 ^ 64 → Walked word places → PlacesOf word places

-- from every word there is such a walk: it comes to its end
abbrev pub WalkEnds : Type 0
WalkEnds = (word : ℕ) → word < 2 ^ 64 → (places : List ℕ) × Walked word places
