-- A text that states a market is read as it.
use Prim.Native.Nat.{ℕ, zero, suc, ◌+◌, ◌*◌, ◌≤◌, ◌<◌}
use mathlib.Core.List.{List, [], ◌∷◌, ◌++◌, map, append_assoc, append-nil, flatten}
use mathlib.Core.Logic.{⊎_elim}
use mathlib.Core.Path.{◌≡◌, refl, sym, ap, subst, ◌∙◌}
use native.Mathlib.Nat.{eq-or-lt_of_le, le_of_suc-le-suc}
use native.Mathlib.Omega.{arith}
use lib.ListN.{length, get_or, length-map, length-append, get_or-map, get_or-append}
use lib.Seq.{get_or-append-add, get_or-append_seam}
use Rattle.model.specs.Counting.{◌<?◌, list, joined, only}
use Rattle.model.specs.Verdicts.{accepted}
use Rattle.model.specs.market.Market.{Tables, bid_at}
use Rattle.model.specs.market.Shape.{Shaped}
use Rattle.model.specs.csv.Faults.{stations, fields_of}
use Rattle.model.specs.csv.Content.{guests, values, value, guest_field, csv_tables, read_csv}
use Rattle.model.specs.csv.Text.{lines, number_in, GoodField, guest_numbers, numbers_of, StatesCsv}
use Rattle.model.proofs.Counting.{length_list}
use Rattle.model.proofs.Tests.{is_lt, only_yes}
use Rattle.model.proofs.Verdicts.{giving_accepted}
use Rattle.model.proofs.sheet.Joined.{get_d_joined, joined_cong}
use Rattle.model.proofs.sheet.Joined.{joined_is}
use Rattle.model.proofs.sheet.Truth.{list_is}
use Rattle.model.proofs.csv.Going.{GoodFields}
use Rattle.model.proofs.csv.Lines.{Comes, lines_come}

-- ---- a list of lists

pub length_each : {A : Type 0} (n : ℕ) (f : ℕ → A) → length (joined n (λ i. f i ∷ [])) ≡ n
unfolding joined
length_each zero f = refl
length_each (suc n) f = length-append (joined n (λ i. f i ∷ [])) _ ∙ (let e = length_each n f in omega (arith, e))

pub get_d_each : {A : Type 0} (n : ℕ) (f : ℕ → A) (d : A) (i : ℕ) → i < n → get_or (joined n (λ i. f i ∷ [])) i d ≡ f i
unfolding joined
get_d_each zero f d i l = absurd (omega arith)
get_d_each (suc n) f d i l = ⊎_elim
    (λ (e : i ≡ n). rw e (ap (λ q. get_or (joined n (λ i. f i ∷ []) ++ (f n ∷ [])) q d) (sym (length_each n f))
    ∙ get_or-append_seam (joined n (λ i. f i ∷ [])) (f n) [] d))
    (λ (h : i < n). get_or-append (joined n (λ i. f i ∷ [])) _ d i (omega (arith, length_each n f))
    ∙ get_d_each n f d i h)
    (eq-or-lt_of_le (le_of_suc-le-suc l))

flatten_both : (xs ys : List (List ℕ)) → flatten (xs ++ ys) ≡ flatten xs ++ flatten ys
unfolding flatten
flatten_both [] ys = refl
flatten_both (x ∷ xs) ys = ap (λ r. x ++ r) (flatten_both xs ys) ∙ sym (append_assoc x (flatten xs) (flatten ys))

flatten_each : (n : ℕ) (f : ℕ → List ℕ) → flatten (joined n (λ i. f i ∷ [])) ≡ joined n f
unfolding joined flatten
flatten_each zero f = refl
flatten_each (suc n) f = flatten_both (joined n (λ i. f i ∷ [])) _
    ∙ ap (λ r. r ++ (f n ++ [])) (flatten_each n f) ∙ ap (λ r. joined n f ++ r) (append-nil (f n))

-- ---- the numbers of a market, one after the other

guest_number : Tables → (i k : ℕ) → ℕ
guest_number t i zero = get_or t.tickets i 0
guest_number t i (suc zero) = get_or t.amounts i 0
guest_number t i (suc (suc j)) = bid_at t i j

guest_row : (t : Tables) (i : ℕ) → guest_numbers t i ≡ list (suc (suc (length t.asks))) (guest_number t i)
unfolding guest_numbers list guest_number
guest_row t i = refl

-- a text whose values are those of t, with t's counts
module _ (text : List ℕ) (t : Tables) (z : Shaped t) (m_is : stations text ≡ length t.asks)
    (n_is : guests text ≡ length t.amounts) (same : values text ≡ flatten (numbers_of t)) where
  abbrev n : ℕ
  n = length t.amounts

  abbrev m : ℕ
  m = length t.asks

  abbrev rows : List ℕ
  rows = joined n (λ i. list (suc (suc m)) (guest_number t i))

  values_are : values text ≡ t.asks ++ (t.bays ++ rows)
  unfolding numbers_of flatten
  values_are = same
      ∙ ap (λ r. t.asks ++ (t.bays ++ r)) (flatten_each n (guest_numbers t) ∙ joined_cong n _ _ (λ i _. guest_row t i))

  value_is : (q : ℕ) → value text q ≡ get_or (t.asks ++ (t.bays ++ rows)) q 0
  unfolding value
  value_is q = ap (λ l. get_or l q 0) values_are

  ask_is : (j : ℕ) → j < m → value text j ≡ get_or t.asks j 0
  ask_is j l = value_is j ∙ get_or-append t.asks _ 0 j l

  bays_are : (j : ℕ) → j < m → value text (m + j) ≡ get_or t.bays j 0
  bays_are j l =
      value_is (m + j) ∙ get_or-append-add t.asks _ j 0
      ∙ get_or-append t.bays _ 0 j (omega (arith, z.bays_length))

  guest_is : (i k p : ℕ) → i < n → k < suc (suc m) → p ≡ guest_field m i + k → value text p ≡ guest_number t i k
  unfolding guest_field
  guest_is i k p l h at =
      let e : p ≡ m + (length t.bays + (i * suc (suc m) + k)) = omega (arith, z.bays_length) in
      ap (value text) e ∙ value_is _ ∙ get_or-append-add t.asks _ _ 0 ∙ get_or-append-add t.bays _ _ 0
      ∙ get_d_joined n (suc (suc m)) (guest_number t) i k l h

  pub tables_same : csv_tables text ≡ t
  unfolding csv_tables bid_at guest_number
  tables_same = rw (m_is, n_is) (λ x. record {
    asks = list_is m (value text) t.asks refl ask_is x;
    bays = list_is m (λ j. value text (m + j)) t.bays z.bays_length bays_are x;
    amounts = list_is n (λ i. value text (guest_field m i + 1)) t.amounts refl
        (λ i l. guest_is i 1 _ l (omega arith) refl) x;
    tickets = list_is n (λ i. value text (guest_field m i)) t.tickets z.tickets_length
        (λ i l. guest_is i 0 _ l (omega arith) (omega arith)) x;
    bids = joined_is n m (λ i j. value text (guest_field m i + 2 + j)) t.bids z.stations_least
        z.bids_length (λ i j l k. guest_is i (suc (suc j)) _ l (omega arith) (omega arith)) x;
    width = sym z.width_is x;
  })

-- ---- the lines of a text that states t

pub bays_fields : (m : ℕ) → fields_of m (1 + 0) ≡ m
unfolding fields_of only ◌<?◌
bays_fields m = omega arith

pub guest_fields_lem : (m i : ℕ) → fields_of m (1 + suc i) ≡ m + 2
unfolding fields_of
guest_fields_lem m i = omega (
  arith,
  only_yes (0 <? 1 + suc i) m (is_lt 0 (1 + suc i) (omega arith)),
  only_yes (1 <? 1 + suc i) 2 (is_lt 1 (1 + suc i) (omega arith)),
)

-- two or more lines, by their numbers
module _ (t : Tables) (z : Shaped t) (a b : List (List ℕ)) (gs : List (List (List ℕ)))
    (numbers : map (map number_in) (a ∷ b ∷ gs) ≡ numbers_of t)
    (good : (l k : ℕ) → l < length (a ∷ b ∷ gs) → k < length (get_or (a ∷ b ∷ gs) l [])
    → GoodField l k (get_or (get_or (a ∷ b ∷ gs) l []) k [])) where
  line_numbers : (l : ℕ) → map number_in (get_or (a ∷ b ∷ gs) l []) ≡ get_or (numbers_of t) l []
  line_numbers l = sym (get_or-map (map number_in) (a ∷ b ∷ gs) l []) ∙ ap (λ q. get_or q l []) numbers

  line_long : (l : ℕ) → length (get_or (a ∷ b ∷ gs) l []) ≡ length (get_or (numbers_of t) l [])
  line_long l = sym (length-map (get_or (a ∷ b ∷ gs) l []) number_in) ∙ ap length (line_numbers l)

  lines_many : length gs ≡ length t.amounts
  unfolding numbers_of
  lines_many =
      let e = ap length numbers in
      omega (arith, e, length-map gs (map number_in), length_each (length t.amounts) (guest_numbers t))

  good_fields : (l : ℕ) → l < length (a ∷ b ∷ gs) → GoodFields l 0 (get_or (a ∷ b ∷ gs) l [])
  good_fields l h = record {
    each = λ k hk. subst (λ q. GoodField l q (get_or (get_or (a ∷ b ∷ gs) l []) k []))
        (let e : k ≡ 0 + k = omega arith in e) (good l k h hk);
  }

  asks_long : length a ≡ length t.asks
  unfolding numbers_of
  asks_long = line_long 0

  fields_enough : (i : ℕ) → i < length (b ∷ gs) → length (get_or (b ∷ gs) i []) ≡ fields_of (length a) (1 + i)
  unfolding numbers_of guest_numbers
  fields_enough zero h = line_long 1 ∙ z.bays_length ∙ sym asks_long ∙ sym (bays_fields (length a))
  fields_enough (suc i) h =
      let r = ap length (get_d_each (length t.amounts) (guest_numbers t) [] i (omega (arith, lines_many))) in
      line_long (suc (suc i)) ∙ r
      ∙ omega (arith, asks_long, guest_fields_lem (length a) i, length_list (length t.asks) (bid_at t i))

  comes : Comes a (b ∷ gs)
  unfolding numbers_of
  comes = lines_come a (b ∷ gs) (omega (arith, asks_long, z.stations_least))
      (omega (arith, asks_long, z.stations_most)) (omega arith) (omega (arith, lines_many, z.guests_most))
      (good_fields 0 (omega arith))
      (record {
        fields = λ i h. subst (λ q. GoodFields q 0 (get_or (b ∷ gs) i [])) (let e : suc i ≡ 1 + i = omega arith in e)
            (good_fields (suc i) (omega arith));
        enough = fields_enough;
      })

  lines_read : read_csv (lines (a ∷ b ∷ gs)) ≡ accepted t
  unfolding read_csv numbers_of
  lines_read =
      giving_accepted _ comes.accepted_is ∙ ap accepted
      (tables_same (lines (a ∷ b ∷ gs)) t z (comes.stations_are ∙ asks_long)
      (let e = comes.guests_are in omega (arith, e, lines_many))
      (comes.values_are ∙ ap flatten numbers))

numbers_long : (t : Tables) → 2 ≤ length (numbers_of t)
unfolding numbers_of
numbers_long t = omega arith

pub states_read : (text : List ℕ) (t : Tables) → StatesCsv text t → read_csv text ≡ accepted t
states_read text t s = ap read_csv s.is ∙ by_fields s.fields s.numbers_are s.good
  where
    two_or_more : length (numbers_of t) < 2 → ⊥
    two_or_more h = omega (arith, numbers_long t)

    by_fields :
        (f : List (List (List ℕ))) → map (map number_in) f ≡ numbers_of t
        → ((l k : ℕ) → l < length f → k < length (get_or f l []) → GoodField l k (get_or (get_or f l []) k []))
        → read_csv (lines f) ≡ accepted t
    by_fields [] e g = absurd (two_or_more (omega (arith, ap length e)))
    by_fields (a ∷ []) e g = absurd (two_or_more (omega (arith, ap length e)))
    by_fields (a ∷ b ∷ gs) e g = lines_read t s.shape a b gs e g
