-- How long a sheet is, by its set bits.
use Prim.Native.Nat.{ℕ, zero, suc, ◌+◌, ◌*◌}
use mathlib.Core.Bool.{Bool, true, false}
use mathlib.Core.List.{List}
use mathlib.Core.Path.{◌≡◌, refl, ap, ◌∙◌}
use native.Mathlib.Omega.{arith}
use lib.ListN.{length, get_or, length-append}
use Rattle.model.specs.Counting.{◌<?◌, only, sum, count, joined}
use Rattle.model.specs.market.Market.{Tables, bid_at}
use Rattle.model.specs.sheet.Fields.{map_width}
use Rattle.model.specs.sheet.Layout.{pack, station, stated, row, layout, bidden}
use Rattle.model.specs.sheet.Shortest.{shortest}
use Rattle.model.proofs.Counting.{sum_cong, sum_add, sum_scale, sum_rows}
use Rattle.model.proofs.sheet.Holds.{bytes_length}

joined_sum : (n : ℕ) (f : ℕ → List ℕ) → length (joined n f) ≡ sum n (λ i. length (f i))
unfolding joined sum
joined_sum zero f = refl
joined_sum (suc n) f = length-append (joined n f) (f n) ∙ ap (λ x. x + length (f n)) (joined_sum n f)

pub sum_constant : (n c : ℕ) → sum n (λ _. c) ≡ n * c
unfolding sum
sum_constant zero c = omega arith
sum_constant (suc n) c = omega (arith, sum_constant n c)

pub stated_length : (b : Bool) (x : ℕ) → length (stated b x) ≡ 4 * only b 1
unfolding stated only
stated_length true x = bytes_length 4 x
stated_length false x = refl

pub fields_length :
    (m : ℕ) (b : ℕ → Bool) (v : ℕ → ℕ) → length (joined m (λ j. stated (b j) (v j))) ≡ 4 * count m b
unfolding count
fields_length m b v =
    joined_sum m (λ j. stated (b j) (v j)) ∙ sum_cong m _ _ (λ j _. stated_length (b j) (v j)) ∙ sum_scale m 4 _

pub station_length : (t : Tables) (j : ℕ) → length (station t j) ≡ 6
unfolding station
station_length t j =
    simp length-append (omega (arith, bytes_length 4 (get_or t.asks j 0), bytes_length 2 (get_or t.bays j 0)))

-- a row but for its bids
abbrev pub row_head : ℕ → ℕ
row_head m = 6 + map_width m

module _ (t : Tables) (set : ℕ → ℕ → Bool) where
  abbrev m : ℕ
  m = length t.asks

  abbrev n : ℕ
  n = length t.amounts

  pub row_length : (i : ℕ) → length (row t set i) ≡ row_head m + 4 * count m (set i)
  unfolding row
  row_length i =
      simp length-append (omega (
        arith,
        bytes_length 2 (get_or t.amounts i 0),
        bytes_length 4 (get_or t.tickets i 0),
        bytes_length (map_width m) (pack m (set i)),
        fields_length m (set i) (bid_at t i),
      ))

  pub layout_length : length (layout t set) ≡ 4 + m * 6 + (n * row_head m + 4 * sum n (λ i. count m (set i)))
  unfolding layout
  layout_length =
      simp length-append (omega (
        arith,
        bytes_length 2 n,
        bytes_length 2 m,
        joined_sum m (station t) ∙ sum_cong m _ _ (λ j _. station_length t j) ∙ sum_constant m 6,
        joined_sum n (row t set) ∙ sum_cong n _ _ (λ i _. row_length i) ∙ sum_add n _ _,
        sum_constant n (row_head m),
        sum_scale n 4 (λ i. count m (set i)),
      ))

-- the shortest sheet, by one count over the bid table
pub shortest_length :
    (t : Tables) → let m = length t.asks in let n = length t.amounts in
    length (shortest t) ≡ 4 + m * 6 + (n * row_head m + 4 * count (n * m) (λ k. 0 <? get_or t.bids k 0))
unfolding shortest bidden bid_at count
shortest_length t =
    layout_length t (bidden t)
    ∙ ap (λ x. 4 + length t.asks * 6 + (length t.amounts * row_head (length t.asks) + 4 * x))
    (sum_rows (length t.amounts) (length t.asks) (λ k. only (0 <? get_or t.bids k 0) 1))
