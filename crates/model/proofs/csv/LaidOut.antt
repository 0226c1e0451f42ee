-- The text that lays a market out states it.
use Prim.Native.Nat.{ℕ, zero, suc, ◌≤◌, ◌<◌}
use mathlib.Core.Bool.{true, false}
use mathlib.Core.List.{List, [], ◌∷◌, ◌++◌, map, map-append}
use mathlib.Core.Logic.{⊎_elim}
use mathlib.Core.Path.{◌≡◌, refl, sym, ap₂, subst, ◌∙◌}
use native.Mathlib.Omega.{arith}
use lib.ListN.{length, get_or, length-map}
use Rattle.model.specs.Counting.{◌<?◌, ◌=?◌, ◌and◌, ◌or◌, list, joined}
use Rattle.model.specs.market.Market.{Tables, bid_at}
use Rattle.model.specs.sheet.Layout.{Fitting}
use Rattle.model.specs.text.Decimal.{higher, decimal}
use Rattle.model.specs.csv.Places.{value_of}
use Rattle.model.specs.csv.Faults.{is_bid, is_narrow, most_by, most}
use Rattle.model.specs.csv.Text.{number_in, GoodField, guest_numbers, numbers_of, bid_text, guest_fields, laid_out}
use Rattle.model.specs.csv.Text.{text_of, LaidOutStates, LaidOutIsRead}
use Rattle.model.proofs.Counting.{up, here, length_list, get_d_list}
use Rattle.model.proofs.Tests.{decide, both, is_lt, not_eq, eq_yes}
use Rattle.model.proofs.csv.Numerals.{tens, numeral, numeral_digits, numeral_few, numeral_some}
use Rattle.model.proofs.csv.Stated.{length_each, get_d_each, states_read}

-- ---- widths

pub narrow_guest : (i k : ℕ) → is_narrow (suc (suc i)) k ≡ (k =? 1)
unfolding is_narrow ◌or◌ ◌and◌
narrow_guest i k = rw (not_eq (suc (suc i)) 1 (λ e. omega arith), is_lt 1 (suc (suc i)) (omega arith)) refl

pub wide : (l k : ℕ) → is_narrow l k ≡ false → most l k ≡ 4_294_967_295
unfolding most most_by
wide l k e = rw e refl

pub narrow : (l k : ℕ) → is_narrow l k ≡ true → most l k ≡ 65_535
unfolding most most_by
narrow l k e = rw e refl

most_most : (l k : ℕ) → most l k ≤ 4_294_967_295
most_most l k = ⊎_elim
    (λ (e : is_narrow l k ≡ true). omega (arith, narrow l k e))
    (λ (e : is_narrow l k ≡ false). omega (arith, wide l k e))
    (decide (is_narrow l k))

pub ask_most : (j : ℕ) → most 0 j ≡ 4_294_967_295
unfolding is_narrow ◌=?◌ ◌<?◌ ◌and◌ ◌or◌
ask_most j = wide 0 j refl

pub bays_most : (j : ℕ) → most 1 j ≡ 65_535
unfolding is_narrow ◌=?◌ ◌<?◌ ◌and◌ ◌or◌
bays_most j = narrow 1 j refl

pub ticket_most : (i : ℕ) → most (suc (suc i)) 0 ≡ 4_294_967_295
unfolding ◌=?◌
ticket_most i = wide (suc (suc i)) 0 (narrow_guest i 0)

pub amount_most : (i : ℕ) → most (suc (suc i)) 1 ≡ 65_535
unfolding ◌=?◌
amount_most i = narrow (suc (suc i)) 1 (narrow_guest i 1)

pub bid_most : (i j : ℕ) → most (suc (suc i)) (suc (suc j)) ≡ 4_294_967_295
bid_most i j =
    wide (suc (suc i)) (suc (suc j)) (narrow_guest i (suc (suc j)) ∙ not_eq (suc (suc j)) 1 (λ e. omega arith))

-- ---- a field

in_decimal : (x : ℕ) → x ≤ 4_294_967_295 → number_in (decimal x) ≡ x
unfolding decimal tens
in_decimal x h = numeral 20 x (omega arith) (omega arith)

in_bid : (x : ℕ) → x ≤ 4_294_967_295 → number_in (bid_text x) ≡ x
unfolding bid_text higher number_in value_of
in_bid x h = ⊎_elim
    (λ (e : x =? 0 ≡ true). rw e (sym (eq_yes x 0 e)))
    (λ (e : x =? 0 ≡ false). rw e (in_decimal x h))
    (decide (x =? 0))

decimal_good : {l k : ℕ} (x : ℕ) → x ≤ most l k → GoodField l k (decimal x)
unfolding decimal tens
decimal_good {l} {k} x h =
    let most : x ≤ 4_294_967_295 = omega (arith, h, most_most l k) in
    record {
      digits_only = numeral_digits 20 x;
      ten_most = numeral_few 20 10 x (omega arith) (omega arith);
      there = λ e. absurd (omega (arith, e, numeral_some 19 x));
      fits = rw (in_decimal x most) h;
    }

bid_good : {l k : ℕ} (x : ℕ) → is_bid l k ≡ true → x ≤ most l k → GoodField l k (bid_text x)
unfolding bid_text higher number_in value_of
bid_good {l} {k} x b h = ⊎_elim
    (λ (e : x =? 0 ≡ true). rw e (record {
      digits_only = λ p l. absurd (omega arith);
      ten_most = omega arith;
      there = λ e. b;
      fits = omega arith;
    }))
    (λ (e : x =? 0 ≡ false). rw e (decimal_good x h))
    (decide (x =? 0))

is_bid_lem : (i j : ℕ) → is_bid (suc (suc i)) (suc (suc j)) ≡ true
unfolding is_bid
is_bid_lem i j = both (is_lt 1 (suc (suc i)) (omega arith)) (is_lt 1 (suc (suc j)) (omega arith))

-- ---- a list of numbers, written and read again

map_back :
    (f : ℕ → List ℕ) (xs : List ℕ) → ((j : ℕ) → j < length xs → number_in (f (get_or xs j 0)) ≡ get_or xs j 0)
    → map number_in (map f xs) ≡ xs
map_back f [] h = refl
map_back f (x ∷ xs) h = ap₂ ◌∷◌ (h 0 (omega arith)) (map_back f xs (λ j l. h (suc j) (omega arith)))

map_at_lem : (f : ℕ → List ℕ) (xs : List ℕ) (j : ℕ) → j < length xs → get_or (map f xs) j [] ≡ f (get_or xs j 0)
map_at_lem f [] j l = absurd (omega arith)
map_at_lem f (x ∷ xs) zero l = refl
map_at_lem f (x ∷ xs) (suc j) l = map_at_lem f xs j (omega arith)

map_each :
    {A B : Type 0} (f : A → B) (n : ℕ) (g : ℕ → A) (h : ℕ → B) → ((i : ℕ) → i < n → f (g i) ≡ h i)
    → map f (joined n (λ i. g i ∷ [])) ≡ joined n (λ i. h i ∷ [])
unfolding joined
map_each f zero g h e = refl
map_each f (suc n) g h e =
    map-append f (joined n (λ i. g i ∷ [])) (g n ∷ [])
    ∙ ap₂ (λ x y. x ++ (y ∷ [])) (map_each f n g h (λ i l. e i (up l))) (e n here)

-- ---- a market within the widths

module _ (t : Tables) (g : Fitting t) where
  abbrev n : ℕ
  n = length t.amounts

  abbrev m : ℕ
  m = length t.asks

  -- its values, and those of a guest's row of bids
  ask_low : (j : ℕ) → j < m → get_or t.asks j 0 ≤ 4_294_967_295
  ask_low j l = omega (arith, g.ask_fits j l)

  bays_low : (j : ℕ) → j < length t.bays → get_or t.bays j 0 ≤ 65_535
  bays_low j l = omega (arith, g.bays_fit j (omega (arith, g.shape.bays_length)))

  ticket_low : (i : ℕ) → i < n → get_or t.tickets i 0 ≤ 4_294_967_295
  ticket_low i l = omega (arith, g.ticket_fits i l)

  amount_low : (i : ℕ) → i < n → get_or t.amounts i 0 ≤ 65_535
  amount_low i l = omega (arith, g.amount_fits i l)

  bid_low : (i j : ℕ) → i < n → j < length (list m (bid_at t i)) → get_or (list m (bid_at t i)) j 0 ≤ 4_294_967_295
  bid_low i j l k =
      let h : j < m = omega (arith, length_list m (bid_at t i)) in
      omega (arith, get_d_list m (bid_at t i) j h, g.bid_fits i j l h)

  guest_back : (i : ℕ) → i < n → map number_in (guest_fields t i) ≡ guest_numbers t i
  unfolding guest_fields guest_numbers
  guest_back i l =
      ap₂ ◌∷◌ (in_decimal _ (ticket_low i l))
      (ap₂ ◌∷◌ (in_decimal _ (omega (arith, amount_low i l)))
      (map_back bid_text (list m (bid_at t i)) (λ j k. in_bid _ (bid_low i j l k))))

  numbers_back : map (map number_in) (laid_out t) ≡ numbers_of t
  unfolding laid_out numbers_of
  numbers_back =
      ap₂ ◌∷◌ (map_back decimal t.asks (λ j l. in_decimal _ (ask_low j l)))
      (ap₂ ◌∷◌ (map_back decimal t.bays (λ j l. in_decimal _ (omega (arith, bays_low j l))))
      (map_each (map number_in) n (guest_fields t) (guest_numbers t) guest_back))

  guest_good :
      (i k : ℕ) → i < n → k < length (guest_fields t i) → GoodField (suc (suc i)) k (get_or (guest_fields t i) k [])
  unfolding guest_fields
  guest_good i zero l h = decimal_good _ (omega (arith, ticket_low i l, ticket_most i))
  guest_good i (suc zero) l h = decimal_good _ (omega (arith, amount_low i l, amount_most i))
  guest_good i (suc (suc j)) l h =
      let k : j < length (list m (bid_at t i)) = omega (arith, length-map (list m (bid_at t i)) bid_text) in
      subst (GoodField (suc (suc i)) (suc (suc j))) (sym (map_at_lem bid_text (list m (bid_at t i)) j k))
      (bid_good _ (is_bid_lem i j) (omega (arith, bid_low i j l k, bid_most i j)))

  fields_good :
      (l k : ℕ) → l < length (laid_out t) → k < length (get_or (laid_out t) l [])
      → GoodField l k (get_or (get_or (laid_out t) l []) k [])
  unfolding laid_out
  fields_good zero k l h =
      let j : k < m = omega (arith, length-map t.asks decimal) in
      subst (GoodField 0 k) (sym (map_at_lem decimal t.asks k j))
      (decimal_good _ (omega (arith, ask_low k j, ask_most k)))
  fields_good (suc zero) k l h =
      let j : k < length t.bays = omega (arith, length-map t.bays decimal) in
      subst (GoodField 1 k) (sym (map_at_lem decimal t.bays k j))
      (decimal_good _ (omega (arith, bays_low k j, bays_most k)))
  fields_good (suc (suc i)) k l h =
      let low : i < n = omega (arith, length_each n (guest_fields t)) in
      let row = get_d_each n (guest_fields t) [] i low in
      subst (λ f. GoodField (suc (suc i)) k (get_or f k [])) (sym row) (guest_good i k low (rw row at h))

pub laid_out_states : LaidOutStates
unfolding text_of
laid_out_states t g = record {
  shape = g.shape;
  fields = laid_out t;
  is = refl;
  numbers_are = numbers_back t g;
  good = fields_good t g;
}

pub laid_out_is_read : LaidOutIsRead
laid_out_is_read t g = states_read (text_of t) t (laid_out_states t g)
