-- The rows of an accepted market's bid table.
use Prim.Native.Nat.{ℕ, ◌+◌, ◌*◌, ◌-◌, ◌≤◌, ◌<◌}
use mathlib.Core.List.{List, []}
use mathlib.Core.Path.{◌≡◌, sym, ap, ◌∙◌}
use native.Mathlib.Nat.{mul-le-mul_right}
use native.Mathlib.Omega.{arith}
use lib.ListN.{get_or, length, take, drop, length-take, length-drop}
use lib.Seq.{get_or-take, get_or-drop}
use Rattle.model.specs.market.Market.{bid_at}
use Rattle.model.proofs.Tests.{both, is_le, is_eq, not_eq}
use Rattle.model.proofs.market.Acceptance.{accepted_iff_within_limits}
use Rattle.model.specs.clauses.Rows.{shown, row_of, bids_of, RowsShowBids, ViewShowsBids}

-- a row that lies in the table
pub row_in : (xs : List ℕ) (m i : ℕ) → 1 ≤ i → i * m ≤ length xs → take m (drop ((i - 1) * m) xs) ≡ row_of xs m i
unfolding row_of shown
row_in xs m i h l =
    ap (λ b. shown b (take m (drop ((i - 1) * m) xs))) (sym (both (is_le 1 i h) (is_le (i * m) (length xs) l)))

pub row_long : (xs : List ℕ) (m i : ℕ) → (i + 1) * m ≤ length xs → length (row_of xs m (i + 1)) ≡ m
row_long xs m i l =
    let e : i + 1 - 1 ≡ i = omega arith in
    rw (← row_in xs m (i + 1) (omega arith) l, e) (simp (length-take, length-drop) (omega arith))

pub row_shows :
    (xs : List ℕ) (m i j : ℕ) → (i + 1) * m ≤ length xs → j < m
    → get_or (row_of xs m (i + 1)) j 0 ≡ get_or xs (i * m + j) 0
row_shows xs m i j l h =
    let e : i + 1 - 1 ≡ i = omega arith in
    rw (← row_in xs m (i + 1) (omega arith) l, e) (get_or-take m _ j 0 h ∙ get_or-drop (i * m) xs j 0)

pub rows_show_bids : RowsShowBids
unfolding bid_at
rows_show_bids t a i l =
    let w = (accepted_iff_within_limits t).0 a in
    let whole : (i + 1) * length t.asks ≤ length t.bids
    = omega (arith, w.shape.bids_length, mul-le-mul_right (length t.asks) l) in
    rw w.shape.width_is
    (row_long t.bids (length t.asks) i whole, λ j h. row_shows t.bids (length t.asks) i j whole h)

-- the bids of a view that is as wide as there are stations, and of another one
pub bids_shown : (xs : List ℕ) (w m : ℕ) → w ≡ m → bids_of xs w m ≡ xs
unfolding bids_of shown
bids_shown xs w m e = ap (λ b. shown b xs) (is_eq w m e)

pub bids_hidden : (xs : List ℕ) (w m : ℕ) → (w ≡ m → ⊥) → [] ≡ bids_of xs w m
unfolding bids_of shown
bids_hidden xs w m n = sym (ap (λ b. shown b xs) (not_eq w m n))

pub view_shows_bids : ViewShowsBids
view_shows_bids t a = bids_shown _ _ _ ((accepted_iff_within_limits t).0 a).shape.width_is
