-- A sheet that states a market is bytes.
use Prim.Native.Nat.{ℕ, zero, suc, ◌/◌}
use mathlib.Core.Bool.{Bool, true, false}
use mathlib.Core.List.{List, [], ◌∷◌, ◌++◌}
use mathlib.Core.Path.{sym, subst}
use native.Mathlib.Nat.{mod-lt}
use native.Mathlib.Omega.{arith}
use lib.ListN.{length}
use Rattle.model.specs.Counting.{joined}
use Rattle.model.specs.market.Market.{Tables}
use Rattle.model.specs.sheet.Layout.{bytes_of, station, stated, row, layout, bidden, Bytes, StatedIsBytes}

record Low (s : List ℕ) : Type 0 where
  low : Bytes s

low_none : Low []
low_none = record { low = λ q. omega arith }

low_both : {xs ys : List ℕ} → Low xs → Low ys → Low (xs ++ ys)
low_both {xs} {ys} h k = record { low = go xs h.low }
  where
    go : (xs : List ℕ) → Bytes xs → Bytes (xs ++ ys)
    go [] h q = k.low q
    go (x ∷ xs) h zero = h 0
    go (x ∷ xs) h (suc q) = go xs (λ r. h (suc r)) q

low_joined : (n : ℕ) {f : ℕ → List ℕ} → ((i : ℕ) → Low (f i)) → Low (joined n f)
unfolding joined
low_joined zero h = low_none
low_joined (suc n) h = low_both (low_joined n h) (h n)

low_number : (k x : ℕ) → Low (bytes_of k x)
unfolding bytes_of
low_number k x = record { low = go k x }
  where
    go : (k x : ℕ) → Bytes (bytes_of k x)
    go zero x q = omega arith
    go (suc k) x zero = mod-lt x (omega arith)
    go (suc k) x (suc q) = go k (x / 256) q

low_stated : (b : Bool) (x : ℕ) → Low (stated b x)
unfolding stated
low_stated true x = low_number 4 x
low_stated false x = low_none

low_layout : (t : Tables) (set : ℕ → ℕ → Bool) → Low (layout t set)
unfolding layout station row
low_layout t set =
    low_both (low_number 2 _) (low_both (low_number 2 _) (low_both
    (low_joined (length t.asks) (λ j. low_both (low_number 4 _) (low_number 2 _)))
    (low_joined (length t.amounts) (λ i. low_both (low_number 2 _) (low_both (low_number 4 _)
    (low_both (low_number _ _) (low_joined (length t.asks) (λ j. low_stated (set i j) _))))))))

pub stated_is_bytes : StatedIsBytes
stated_is_bytes s t h = subst Bytes (sym h.is) (low_layout t (bidden t)).low
