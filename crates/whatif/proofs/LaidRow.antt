-- A row over a copy of a market's bids is the bids with that row.
use Prim.Native.Nat.{ℕ, ◌+◌, ◌*◌, ◌-◌, ◌≤◌, ◌<◌}
use mathlib.Core.List.{List, ◌++◌}
use mathlib.Core.Logic.{⊎_elim}
use mathlib.Core.Path.{◌≡◌, sym, ap, ◌∙◌}
use native.Mathlib.Nat.{mul-le-mul_right}
use native.Mathlib.Omega.{arith}
use lib.ListN.{get_or, length, take, drop, length-take, get_or-append}
use lib.Seq.{paste, length-paste, length_paste_head, get_or-append-add, get_or-take, get_or-drop}
use Rattle.model.specs.market.Market.{Tables, bid_at}
use Rattle.model.specs.market.Changes.{bid_table, bids_with_row, with_row}
use Rattle.model.specs.claims.Meaning.{WithinLimits}
use Rattle.model.proofs.Tests.{lt_or_le, eq_or_ne, is_eq, not_eq}
use Rattle.model.proofs.sheet.Joined.{joined_is}

-- ---- what stands in a table after a list is written over its places from at on

module _ (d : List ℕ) (at : ℕ) (s : List ℕ) (n : ℕ) (room : at + n ≤ length d) (few : n ≤ length s) where
  head_long : length (take at d) ≡ at
  head_long = omega (arith, length-take at d)

  paste_before : (k : ℕ) → k < at → get_or (paste d at s n) k 0 ≡ get_or d k 0
  paste_before k l =
      get_or-append (take at d ++ take n s) _ 0 k
      (omega (arith, length_paste_head d at s n (omega arith) few))
      ∙ get_or-append (take at d) _ 0 k (omega (arith, head_long)) ∙ get_or-take at d k 0 l

  paste_within : (k : ℕ) → k < n → get_or (paste d at s n) (at + k) 0 ≡ get_or s k 0
  paste_within k l =
      get_or-append (take at d ++ take n s) _ 0 (at + k)
      (omega (arith, length_paste_head d at s n (omega arith) few))
      ∙ ap (λ z. get_or (take at d ++ take n s) (z + k) 0) (sym head_long)
      ∙ get_or-append-add (take at d) (take n s) k 0 ∙ get_or-take n s k 0 l

  paste_after : (k : ℕ) → get_or (paste d at s n) (at + n + k) 0 ≡ get_or d (at + n + k) 0
  paste_after k =
      ap (λ z. get_or (paste d at s n) (z + k) 0) (sym (length_paste_head d at s n (omega arith) few))
      ∙ get_or-append-add (take at d ++ take n s) (drop (at + n) d) k 0 ∙ get_or-drop (at + n) d k 0

-- ---- a row

module _ (t : Tables) (i : ℕ) (row : List ℕ) (w : WithinLimits t) (li : i < length t.amounts)
    (long : length row ≡ length t.asks) where
  abbrev m : ℕ
  m = length t.asks

  fits : i * m + m ≤ length t.bids
  fits = omega (arith, w.shape.bids_length, mul-le-mul_right m li)

  bid_is :
      (k j : ℕ) → k < length t.amounts → j < m
      → bids_with_row t i row k j ≡ get_or (paste t.bids (i * m) row m) (k * m + j) 0
  unfolding bids_with_row bid_at
  bid_is k j lk lj = ⊎_elim
      (λ (e : k ≡ i). rw (is_eq k i e, e) (sym (paste_within t.bids (i * m) row m fits (omega arith) j lj)))
      (λ (n : k ≡ i → ⊥). rw (not_eq k i n) (⊎_elim
      (λ (l : k < i). sym (paste_before t.bids (i * m) row m fits (omega arith) (k * m + j)
      (omega (arith, mul-le-mul_right m l))))
      (λ (l : i ≤ k).
      let past : i * m + m ≤ k * m = (let l' : i + 1 ≤ k = omega arith in omega (arith, mul-le-mul_right m l')) in
      let at : i * m + m + (k * m + j - (i * m + m)) ≡ k * m + j = omega arith in
      rw at at (sym (paste_after t.bids (i * m) row m fits (omega arith) (k * m + j - (i * m + m)))))
      (lt_or_le k i)))
      (eq_or_ne k i)

  pub row_laid : paste t.bids (i * length row) row (length row) ≡ (with_row t i row).bids
  unfolding bid_table
  row_laid = rw long (sym (joined_is (length t.amounts) m (bids_with_row t i row) _ w.shape.stations_least
      (length-paste t.bids (i * m) row m fits (omega arith) ∙ w.shape.bids_length) bid_is))

  pub row_room : i * length row + length row ≤ length t.bids
  row_room = rw long fits
