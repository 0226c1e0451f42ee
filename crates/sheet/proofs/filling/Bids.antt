-- Bids by the map of their row.
use Prim.Native.Nat.{ℕ, ◌+◌, ◌*◌, ◌^◌, ◌≤◌, ◌<◌}
use mathlib.Core.Bool.{false}
use mathlib.Core.List.{List}
use mathlib.Core.Logic.{⊎_elim}
use mathlib.Core.Path.{◌≡◌, sym, ap, ◌∙◌}
use native.Mathlib.Omega.{arith}
use lib.ListN.{length, set, length-set}
use lib.Seq.{get_or-set_same, get_or-set_other}
use Rattle.std.specs.Prelude.{Some, None}
use Rattle.model.specs.Counting.{◌<?◌, only, count, list}
use Rattle.model.specs.sheet.Fields.{little_endian, has_bit}
use Rattle.model.specs.sheet.Rows.{bid_by}
use Rattle.model.specs.clauses.Steps.{Steps}
use Rattle.model.proofs.Counting.{count_all, count_start, count_yes, count_up, length_list, get_d_list, list_cong}
use Rattle.model.proofs.Loops.{is_list}
use Rattle.model.proofs.Tests.{only_yes, only_no, is_lt, not_lt, lt_or_le, eq_or_ne}
use Rattle.model.proofs.sheet.Walk.{Next, count_still, Walk, walk_all, walk_next, walk_bit, walk_on, walk_done}
use Rattle.sheet.specs.Filling.{AllFilled, RowFilled}
use Rattle.sheet.specs.Taken.{Moved, Taken}
use Rattle.sheet.specs.declared.fields.Cursor.{Cursor}
use Rattle.sheet.proofs.fields.Moves.{moved_none, moved_then, moved_by, room_after, taken_after}

-- where all bits are set the bids follow each other
pub all_set :
    {from to : Cursor} {m : ℕ} {row : List ℕ} (map : ℕ) → count m (has_bit map) ≡ m → AllFilled from m row to
    → RowFilled from map m row to
unfolding bid_by
all_set {from} {m = m} map e f = record {
  moved = moved_by f.moved (ap (λ k. 4 * k) (sym e));
  row_is = f.row_is ∙ list_cong m _ _ (λ j l.
      let (c, b) = count_all m (has_bit map) e j l in rw c (sym (only_yes _ _ b)));
}

-- where a bit is clear there is no bid
no_bid : (s : List ℕ) (map q j : ℕ) → has_bit map j ≡ false → bid_by s map q j ≡ 0
unfolding bid_by
no_bid s map q j e = only_no _ _ e

-- f below p, 0 from there on
unfoldable pub up_to : ℕ → (ℕ → ℕ) → ℕ → ℕ
up_to p f k = only (k <? p) (f k)

below : (p k : ℕ) (f : ℕ → ℕ) → k < p → up_to p f k ≡ f k
unfolding up_to
below p k f h = only_yes _ _ (is_lt k p h)

beyond : (p k : ℕ) (f : ℕ → ℕ) → p ≤ k → up_to p f k ≡ 0
unfolding up_to
beyond p k f h = only_no _ _ (not_lt k p h)

-- one place of a list anew
set_list :
    (m j v : ℕ) (f g : ℕ → ℕ) → j < m → v ≡ g j → ((k : ℕ) → k < m → (k ≡ j → ⊥) → f k ≡ g k)
    → set (list m f) j v ≡ list m g
set_list m j v f g l e o =
    is_list m g _ (length-set (list m f) j v ∙ length_list m f) (λ k lk. ⊎_elim
    (λ (q : k ≡ j). rw q (get_or-set_same (list m f) j v 0 (omega (arith, length_list m f)) ∙ e))
    (λ (q : k ≡ j → ⊥). get_or-set_other (list m f) j k v 0 q ∙ get_d_list m f k lk ∙ o k lk q)
    (eq_or_ne k j))

-- The walk over the set bits of a row's map: the bids of those that are taken are in the row.
pub record Walked (from : Cursor) (map m : ℕ) (row : List ℕ) (left : ℕ) (to : Cursor) : Type 0 where
  pub walk : Walk map m left
  pub moved : Moved from (4 * count walk.p (has_bit map)) to
  pub is : row ≡ list m (up_to walk.p (bid_by from.sheet.now map from.at))

pub walk_start : (r : Cursor) (map m : ℕ) {row : List ℕ} → row ≡ list m (λ _. 0) → Walked r map m row map r
walk_start r map m e = record {
  walk = walk_all map m;
  moved = moved_by (moved_none r) (omega (arith, count_start (has_bit map)));
  is = e ∙ list_cong m _ _ (λ j _. sym (beyond 0 j (bid_by r.sheet.now map r.at) (omega arith)));
}

module _ {from to : Cursor} {map m left : ℕ} {row : List ℕ} (t : Walked from map m row left to) where
  abbrev bid : ℕ → ℕ
  bid = bid_by from.sheet.now map from.at

  module _ (j rest : ℕ) (g : Steps left (Some j) rest)
      (narrow : map < 2 ^ m) where
    n : Next map t.walk.p j
    n = walk_next t.walk g

    pub walk_place : j < m
    walk_place = walk_bit t.walk g narrow

    -- its field is within the row
    pub walk_room : from.at + 4 * count m (has_bit map) ≤ length from.sheet.now → to.at + 4 ≤ length to.sheet.now
    walk_room h = room_after t.moved 4 (omega (
      arith,
      n.number,
      count_yes j (has_bit map) n.set,
      count_up (j + 1) m (has_bit map) (omega (arith, walk_place)),
    ))

    pub walk_turn : {v : ℕ} {to' : Cursor} → Taken to 4 v to' → Walked from map m (set row j v) rest to'
    unfolding bid_by
    walk_turn {v} k = record {
      walk = walk_on t.walk g narrow;
      moved = moved_by (moved_then t.moved k.moved) (omega (arith, n.number, count_yes j (has_bit map) n.set));
      is = ap (λ y. set y j v) t.is
          ∙ set_list m j v _ _ walk_place (value ∙ sym (below (j + 1) j bid (omega arith))) others;
    }
      where
        value : v ≡ bid j
        value = taken_after t.moved k
            ∙ ap (λ c. little_endian from.sheet.now (from.at + 4 * c) 4) (sym n.number) ∙ sym (only_yes _ _ n.set)

        others : (k : ℕ) → k < m → (k ≡ j → ⊥) → up_to t.walk.p bid k ≡ up_to (j + 1) bid k
        others k _ o = ⊎_elim
            (λ (a : k < t.walk.p). below t.walk.p k bid a ∙ sym (below (j + 1) k bid (omega (arith, n.onward))))
            (λ (a : t.walk.p ≤ k). beyond t.walk.p k bid a ∙ ⊎_elim
            (λ (c : k < j + 1). sym (below (j + 1) k bid c ∙ no_bid _ map _ k (n.gap k a (omega arith))))
            (λ (c : j + 1 ≤ k). sym (beyond (j + 1) k bid c))
            (lt_or_le k (j + 1)))
            (lt_or_le k t.walk.p)

  -- no bit is left
  pub walk_end : {rest : ℕ} → Steps left None rest → m ≤ 64 → RowFilled from map m row to
  walk_end g few = record {
    moved = moved_by t.moved
        (ap (λ c. 4 * c) (sym (count_still (has_bit map) t.walk.p m t.walk.low clear)));
    row_is = t.is ∙ list_cong m _ _ (λ k l. ⊎_elim
        (λ (a : k < t.walk.p). below t.walk.p k bid a)
        (λ (a : t.walk.p ≤ k). beyond t.walk.p k bid a ∙ sym (no_bid _ map _ k (clear k a l)))
        (lt_or_le k t.walk.p));
  }
    where
      clear : (k : ℕ) → t.walk.p ≤ k → k < m → has_bit map k ≡ false
      clear k a l = walk_done t.walk g k a (omega arith)
