use Prim.Native.Nat.{ℕ, ◌≤◌, ◌<◌, max}
use mathlib.Core.Bool.{false, ◌&&◌}
use mathlib.Core.Logic.{◌⊎◌, inl, inr, ⊎_elim}
use mathlib.Core.Path.{◌≡◌, ap₂}
use native.Mathlib.Nat.{le_refl}
use native.Mathlib.Omega.{arith}
use lib.Dec.{ltb}
use lib.ListN.{length}
use borrow.Author.Tests.{lt-ltb}
use Rattle.model.specs.Counting.{greatest}
use Rattle.model.proofs.Tests.{clash, only_le, le_only, is_le, lt_or_le}
use Rattle.model.proofs.Counting.{le_greatest, greatest_le}
use Rattle.menu.specs.Keys.{plain_key, key_from}
use Rattle.menu.specs.Holds.{row_key}
use Rattle.menu.proofs.keys.RowKeys.top_key.Goals as goal

none_or_64 : (x : ℕ) → (ltb 0 x && ltb x 64) ≡ false → (x ≤ 0) ⊎ (64 ≤ x)
none_or_64 x e = ⊎_elim
    (λ (h : 0 < x). ⊎_elim
    (λ (l : x < 64). absurd (clash (ap₂ ◌&&◌ (lt-ltb 0 x h) (lt-ltb x 64 l)) e)) (λ l. inr l) (lt_or_le x 64))
    (λ h. inl h)
    (lt_or_le 0 x)

-- of numbers that are the same from 64 on, and else no greater, the greatest is the same where it is 0 or 64 on
module _ (n : ℕ) (f g : ℕ → ℕ) (below : (k : ℕ) → k < n → g k ≤ f k)
    (same : (k : ℕ) → k < n → 64 ≤ f k → f k ≤ g k) where
  greatest_below : greatest n g ≤ greatest n f
  greatest_below = greatest_le n g _ (λ k l. omega (arith, below k l, le_greatest n f k l))

  greatest_above : greatest n f ≤ max 63 (greatest n g)
  greatest_above = greatest_le n f _ (λ k l. ⊎_elim
      (λ (s : f k < 64). omega arith)
      (λ (s : 64 ≤ f k). omega (arith, same k l s, le_greatest n g k l))
      (lt_or_le (f k) 64))

  greatest_same : {top : ℕ} → top ≡ greatest n f → (top ≤ 0) ⊎ (64 ≤ top) → top ≡ greatest n g
  greatest_same e (inl h) = omega (arith, greatest_below)
  greatest_same e (inr h) = omega (arith, greatest_below, greatest_above)

key_below : (least lift bid : ℕ) → key_from least lift bid ≤ plain_key lift bid
unfolding key_from
key_below least lift bid = only_le _ _ _ (λ _. le_refl _)

key_reached : (least lift bid : ℕ) → least ≤ bid → plain_key lift bid ≤ key_from least lift bid
unfolding key_from
key_reached least lift bid h = le_only _ _ (is_le _ _ h)

pub returns-else-top : goal.returns-else-top
unfolding row_key
returns-else-top c =
    let row = c.requires in
    let holds = c.plain_top-top.ensures.holds in
    greatest_same (length c.args.row.now) _ _ (λ k l. key_below _ _ _)
    (λ k l h. key_reached _ _ _ (holds.reached k _ (omega (arith, row.long)) (row.low k l) h))
    c.plain_top-top.ensures.top (none_or_64 _ c.if-top.false)
