-- The bids of a row by its map.
use Prim.Native.Nat.{ℕ, suc, ◌+◌, ◌^◌, ◌≤◌, ◌<◌}
use mathlib.Core.Bool.{true, false}
use mathlib.Core.List.{[]}
use mathlib.Core.Path.{◌≡◌, refl, sym, ap, ◌∙◌}
use native.Mathlib.Numerals.{add-one}
use native.Mathlib.Omega.{arith}
use lib.ListN.{length, length-append}
use Rattle.std.specs.Prelude.{Some, None}
use Rattle.model.specs.Counting.{◌<?◌, count, joined}
use Rattle.model.specs.sheet.Fields.{has_bit}
use Rattle.model.specs.sheet.Layout.{bytes_of, stated}
use Rattle.model.specs.clauses.Steps.{Steps}
use Rattle.model.proofs.sheet.Walk.{Walk, Next, walk_all, walk_next, walk_bit, walk_on, walk_done}
use Rattle.model.proofs.sheet.Holds.{pack_bit, pack_low, bytes_length}
use Rattle.model.proofs.Counting.{count_all}
use Rattle.model.proofs.sheet.Fields.{count_narrow}
use Rattle.model.proofs.sheet.Joined.{joined_cong, joined_gap}
use Rattle.sheet.specs.Laid.{bid_field, bid_fields, row_map}
use Rattle.sheet.specs.Put.{Put}
use Rattle.sheet.specs.declared.putting.Output.{Output}
use Rattle.sheet.proofs.putting.Puts.{put_then}
use Rattle.sheet.proofs.Wrote.{wrote_none_joined, joined_up}

module _ (m : ℕ) (bid : ℕ → ℕ) {map : ℕ} (e : map ≡ row_map m bid) where
  bit_of_bid : (j : ℕ) → j < m → has_bit map j ≡ (0 <? bid j)
  unfolding row_map
  bit_of_bid j l = ap (λ x. has_bit x j) e ∙ pack_bit m (λ j. 0 <? bid j) j l

  pub map_narrow : map < 2 ^ m
  unfolding row_map
  map_narrow = rw e (pack_low m (λ j. 0 <? bid j))

  -- a field where the bit is set
  field_there : (j : ℕ) → j < m → has_bit map j ≡ true → bid_field (bid j) ≡ bytes_of 4 (bid j)
  unfolding bid_field stated
  field_there j l b = ap (λ c. stated c (bid j)) (sym (bit_of_bid j l) ∙ b)

  no_field : (j : ℕ) → j < m → has_bit map j ≡ false → bid_field (bid j) ≡ []
  unfolding bid_field stated
  no_field j l b = ap (λ c. stated c (bid j)) (sym (bit_of_bid j l) ∙ b)

  -- where all bits are set each bid has its field
  pub all_fields : m ≤ 64 → count 64 (has_bit map) ≡ m → bid_fields m bid ≡ joined m (λ j. bytes_of 4 (bid j))
  unfolding bid_fields
  all_fields few n =
      joined_cong m (λ j. bid_field (bid j)) (λ j. bytes_of 4 (bid j)) (λ j l. field_there j l
      (count_all m (has_bit map) (sym (count_narrow m map few map_narrow) ∙ n) j l).1)

  -- the walk over the set bits: those that are taken are written
  pub record Walked (from : Output) (to : Output) (left : ℕ) : Type 0 where
    pub walk : Walk map m left
    pub put : Put from (joined walk.p (λ j. bid_field (bid j))) to

  pub walked_none : (o : Output) → Walked o o map
  walked_none o =
      record { walk = walk_all map m; put = record { wrote = wrote_none_joined _ _ _; same = refl } }

  module _ {from to : Output} {left : ℕ} (t : Walked from to left) where
    module _ (j rest : ℕ) (g : Steps left (Some j) rest) where
      n : Next map t.walk.p j
      n = walk_next t.walk g

      pub walked_place : j < m
      walked_place = walk_bit t.walk g map_narrow

      -- nothing stands between the last and the next set bit
      skipped : joined j (λ j. bid_field (bid j)) ≡ joined t.walk.p (λ j. bid_field (bid j))
      skipped =
          joined_gap (λ j. bid_field (bid j)) t.walk.p j n.onward
          (λ i a b. no_field i (omega (arith, walked_place)) (n.gap i a b))

      next_field : bid_field (bid j) ≡ bytes_of 4 (bid j)
      next_field = field_there _ walked_place n.set

      pub walked_room : from.at + length (bid_fields m bid) ≤ length from.out.now → to.at + 4 ≤ length to.out.now
      unfolding bid_fields joined
      walked_room room =
          omega (
            arith,
            t.put.wrote.same,
            t.put.wrote.next,
            ap length skipped,
            joined_up (λ j. bid_field (bid j)) m (suc j) walked_place,
            length-append (joined j (λ j. bid_field (bid j))) (bid_field (bid j)),
            ap length next_field ∙ bytes_length 4 (bid j),
          )

      pub walked_on : {to' : Output} → Put to (bytes_of 4 (bid j)) to' → Walked from to' rest
      unfolding joined
      walked_on p = record {
        walk = walk_on t.walk g map_narrow;
        put = rw (add-one, skipped, next_field) (put_then t.put p);
      }

    pub walked_all : {rest : ℕ} → Steps left None rest → m ≤ 64 → Put from (bid_fields m bid) to
    unfolding bid_fields
    walked_all g few =
        rw (joined_gap (λ j. bid_field (bid j)) t.walk.p m t.walk.low
        (λ i a b. no_field i b (walk_done t.walk g i a (omega arith)))) t.put
