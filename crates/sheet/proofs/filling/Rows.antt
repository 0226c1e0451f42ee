-- The rows of a sheet with no fault, read one after the other.
use Prim.Native.Nat.{ℕ, ◌+◌, ◌*◌, ◌-◌, ◌^◌, ◌≤◌, ◌<◌}
use mathlib.Core.List.{List}
use mathlib.Core.Path.{◌≡◌, refl, sym, ap, ap₂, ◌∙◌}
use native.Mathlib.Nat.{mul-le-mul_right}
use native.Mathlib.Omega.{arith}
use lib.ListN.{length, set, take, drop, length-take, length-drop}
use borrow.Rule.Slice.PartMut.{put_mid}
use Rattle.std.proofs.lemmas.Slice.{put_mid-paste}
use Rattle.model.specs.Counting.{count, list}
use Rattle.model.specs.Verdicts.{accepted, first_fault}
use Rattle.model.specs.sheet.Fields.{little_endian, map_width, has_bit}
use Rattle.model.specs.sheet.Rows.{row_at, next_at, map_at, bids_at, amount_of, ticket_of, bid_by, bid_of, rows_faults}
use Rattle.model.proofs.Counting.{length_list}
use Rattle.model.proofs.Loops.{Filling, filling_none, filling_turn, filling_end}
use Rattle.model.proofs.Tables.{RowsWritten, rows_none, rows_turn, rows_end as all_rows}
use Rattle.model.proofs.sheet.Rows.{RowSound, sound_at, rows_to, MapTaken, to_next, bids_at_lem}
use Rattle.sheet.specs.Filling.{RowFilled, RowsFilled}
use Rattle.sheet.specs.Taken.{Moved, Taken}
use Rattle.sheet.specs.declared.fields.Cursor.{Cursor}
use Rattle.sheet.proofs.fields.Moves.{moved_then, room_after, taken_after}
use Rattle.sheet.proofs.passes.Rows.{map_taken, same_sheet}

-- the rows of the first i of n guests are read, and the cursor stands after them
pub record RowsRead (from : Cursor) (n m : ℕ) (a₀ t₀ b₀ a t b : List ℕ) (i : ℕ) (to : Cursor) : Type 0 where
  pub place : to.at ≡ row_at from.sheet.now m i
  pub sheet : to.sheet.now ≡ from.sheet.now
  pub amounts : Filling n (amount_of from.sheet.now m) a₀ a i
  pub tickets : Filling n (ticket_of from.sheet.now m) t₀ t i
  pub bids : RowsWritten n m (bid_of from.sheet.now m) b₀ b i

pub start :
    {r : Cursor} {n m : ℕ} {a t b : List ℕ} → r.at ≡ row_at r.sheet.now m 0 → length a ≡ n → length t ≡ n
    → length b ≡ n * m → RowsRead r n m a t b a t b 0 r
start e p q k = record {
  place = e;
  sheet = refl;
  amounts = filling_none p;
  tickets = filling_none q;
  bids = rows_none k;
}

-- a guest's part of the bids
pub part_long :
    (l : List ℕ) (n m i : ℕ) → length l ≡ n * m → i < n → length (take ((i + 1) * m - i * m) (drop (i * m) l)) ≡ m
part_long l n m i e h =
    omega (arith, mul-le-mul_right m h, length-take ((i + 1) * m - i * m) (drop (i * m) l), length-drop (i * m) l)

module _ {from : Cursor} {n m : ℕ} {a₀ t₀ b₀ a t b : List ℕ} {i : ℕ} {to : Cursor}
    (r : RowsRead from n m a₀ t₀ b₀ a t b i to) where
  pub all_read : n ≤ i → RowsFilled from.sheet.now n m a t b
  all_read h = record {
    amounts_are = filling_end r.amounts h;
    tickets_are = filling_end r.tickets h;
    bids_are = all_rows r.bids h;
  }

  module _ (l : i < n) (good : first_fault (rows_faults from.sheet.now m n) ≡ accepted tt) where
    sound : RowSound to.sheet.now m to.at
    sound = rw r.sheet (sound_at from.sheet.now m n i to.at good l r.place)

    pub head_room : to.at + (6 + map_width m) ≤ length to.sheet.now
    head_room = omega (arith, sound.map_in, bids_at_lem m to.at)

    module _ {p q d : Cursor} {x y map : ℕ} (u : Taken to 2 x p) (v : Taken p 4 y q)
        (w : Taken q (map_width m) map d) where
      head : Moved to 6 q
      head = moved_then u.moved v.moved

      taken : MapTaken to.sheet.now m to.at map d.at
      taken = map_taken m head w (room_after head (map_width m) head_room)

      pub narrow : map < 2 ^ m
      narrow = rw taken.map sound.no_stray

      pub bids_room : d.at + 4 * count m (has_bit map) ≤ length d.sheet.now
      bids_room = omega (arith, to_next taken, sound.bids_in, ap length (same_sheet m head w))

      module _ {k : ℕ} (long : k ≡ m) {row : List ℕ} {to' : Cursor} (f : RowFilled d map k row to') where
        pub turn :
            RowsRead from n m a₀ t₀ b₀ (set a i x) (set t i y) (put_mid (i * m) ((i + 1) * m - i * m) b row) (i + 1) to'
        unfolding amount_of ticket_of bid_of
        turn = record {
          place = f.moved.place ∙ ap (λ k. d.at + 4 * count k (has_bit map)) long ∙ to_next taken
              ∙ ap (λ s. next_at s m to.at) r.sheet ∙ rows_to from.sheet.now m i to.at r.place;
          sheet = f.moved.sheet ∙ same_sheet m head w ∙ r.sheet;
          amounts = filling_turn r.amounts l (u.value ∙ ap₂ (λ s p. little_endian s p 2) r.sheet r.place);
          tickets = filling_turn r.tickets l
              (taken_after u.moved v ∙ ap₂ (λ s p. little_endian s (p + 2) 4) r.sheet r.place);
          bids = rows_turn r.bids l (λ j _. refl)
              (put_mid-paste (i * m) ((i + 1) * m - i * m) b row _ m row_is (omega arith)
              (sym (length_list m _)));
        }
          where
            row_is : row ≡ list m (bid_of from.sheet.now m i)
            row_is =
                f.row_is ∙ ap (λ k. list k (bid_by d.sheet.now map d.at)) long
                ∙ ap (λ s. list m (bid_by s map d.at)) (same_sheet m head w ∙ r.sheet)
                ∙ ap₂ (λ x q. list m (bid_by from.sheet.now x q))
                (taken.map ∙ ap₂ (λ s p. map_at s m p) r.sheet r.place)
                (taken.to ∙ ap (bids_at m) r.place)
