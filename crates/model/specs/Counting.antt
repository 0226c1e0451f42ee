-- Tests of numbers, and what is counted, summed or greatest over the indices below n.
use Rattle.std.specs.Prelude.{ℕ, zero, suc, ◌+◌, max, Bool, true, false, List, [], ◌∷◌, ◌++◌, leb, ltb, eqb, get_or}
use Rattle.std.specs.Prelude.{length}

infix 50 ◌<?◌ ◌≤?◌ ◌=?◌
unfoldable pub ◌<?◌ : ℕ → ℕ → Bool
a <? b = ltb a b

unfoldable pub ◌≤?◌ : ℕ → ℕ → Bool
a ≤? b = leb a b

unfoldable pub ◌=?◌ : ℕ → ℕ → Bool
a =? b = eqb a b

infixl 35 ◌and◌
unfoldable pub ◌and◌ : Bool → Bool → Bool
true and b = b
false and b = false

infixl 30 ◌or◌
unfoldable pub ◌or◌ : Bool → Bool → Bool
true or b = true
false or b = b

-- x where the test passes, 0 where not
unfoldable pub only : Bool → ℕ → ℕ
only true x = x
only false x = 0

-- f 0 + .. + f (n - 1)
unfoldable pub sum : ℕ → (ℕ → ℕ) → ℕ
sum zero f = 0
sum (suc n) f = sum n f + f n

-- the greatest of f 0, .., f (n - 1); 0 for none
unfoldable pub greatest : ℕ → (ℕ → ℕ) → ℕ
greatest zero f = 0
greatest (suc n) f = max (greatest n f) (f n)

-- how many k below n pass
unfoldable pub count : ℕ → (ℕ → Bool) → ℕ
count n f = sum n (λ k. only (f k) 1)

-- some k below n passes
unfoldable pub some : ℕ → (ℕ → Bool) → Bool
some zero f = false
some (suc n) f = some n f or f n

-- some element passes
unfoldable pub any : List ℕ → (ℕ → Bool) → Bool
any xs f = some (length xs) (λ k. f (get_or xs k 0))

-- the list f 0, .., f (n - 1); the lists f 0, .., f (n - 1), one after the other
unfoldable pub list : ℕ → (ℕ → ℕ) → List ℕ
list zero f = []
list (suc n) f = f 0 ∷ list n (λ k. f (suc k))

unfoldable pub joined : {A : Type 0} → ℕ → (ℕ → List A) → List A
joined zero f = []
joined (suc n) f = joined n f ++ f n

-- the k below n that pass, in rising order
unfoldable pub alone : Bool → ℕ → List ℕ
alone true k = k ∷ []
alone false k = []

unfoldable pub passing : ℕ → (ℕ → Bool) → List ℕ
passing n f = joined n (λ k. alone (f k) k)
