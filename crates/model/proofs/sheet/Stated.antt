-- The layout of a market against the fields of a sheet.
use Prim.Native.Nat.{ℕ, suc, ◌+◌, ◌*◌, ◌^◌, ◌<◌}
use mathlib.Core.Bool.{Bool, true, false}
use mathlib.Core.List.{List, ◌++◌}
use mathlib.Core.Path.{◌≡◌, refl, sym, ap, ap₂, ◌∙◌, subst}
use native.Mathlib.Omega.{arith}
use lib.ListN.{length, get_or, length-append}
use Rattle.model.specs.Counting.{only, sum, count, joined}
use Rattle.model.specs.market.Market.{Tables, bid_at}
use Rattle.model.proofs.Counting.{count_start}
use Rattle.model.proofs.Tests.{clash}
use Rattle.model.specs.sheet.Fields.{little_endian, map_width, has_bit}
use Rattle.model.specs.sheet.Rows.{map_at, bids_at, next_at, row_at}
use Rattle.model.proofs.sheet.Rows.{first_row, bids_at_lem}
use Rattle.model.specs.sheet.Content.{guests, stations}
use Rattle.model.specs.sheet.Layout.{bytes_of, pack, station, stated, row, layout, Fitting, Bytes}
use Rattle.model.proofs.sheet.Holds.{Holds, holds_left, holds_then, holds_next, holds_all, holds_self}
use Rattle.model.proofs.sheet.Holds.{bytes_length, holds_number, number_holds, joined_place, joined_holds}
use Rattle.model.proofs.sheet.Holds.{joined_each, pack_bit, pack_cong, pack_fits}
use Rattle.model.proofs.sheet.Joined.{joined_cong}
use Rattle.model.proofs.sheet.Lengths.{stated_length, station_length}

-- the market's counts
abbrev pub n : Tables → ℕ
n t = length t.amounts

abbrev pub m : Tables → ℕ
m t = length t.asks

-- its fields, in bytes
abbrev ask_bytes : Tables → ℕ → List ℕ
ask_bytes t j = bytes_of 4 (get_or t.asks j 0)

abbrev amount_bytes : Tables → ℕ → List ℕ
amount_bytes t i = bytes_of 2 (get_or t.amounts i 0)

abbrev ticket_bytes : Tables → ℕ → List ℕ
ticket_bytes t i = bytes_of 4 (get_or t.tickets i 0)

abbrev map_bytes : Tables → (ℕ → ℕ → Bool) → ℕ → List ℕ
map_bytes t set i = bytes_of (map_width (m t)) (pack (m t) (set i))

stated_holds :
    (s : List ℕ) → Bytes s → (p : ℕ) (b : Bool) (x : ℕ) → (b ≡ true → little_endian s p 4 ≡ x) → Holds s p (stated b x)
unfolding stated
stated_holds s y p true x h = number_holds s y p 4 x (h refl)
stated_holds s y p false x h = tt

holds_stated :
    (s : List ℕ) (p : ℕ) (b : Bool) (x : ℕ) → x < 256 ^ 4 → b ≡ true → Holds s p (stated b x) → little_endian s p 4 ≡ x
unfolding stated
holds_stated s p true x f e h = holds_number s p 4 x f h
holds_stated s p false x f e h = absurd (clash e refl)

count_suc : (j : ℕ) (f : ℕ → Bool) → count (suc j) f ≡ count j f + only (f j) 1
unfolding count sum
count_suc j f = refl

-- ---- the bids of one row, from q on
module _ (s : List ℕ) (m x q : ℕ) (b : ℕ → Bool) (v : ℕ → ℕ) (e : x ≡ pack m b) where
  bid_step :
      (j : ℕ) → j < m → q + 4 * count (suc j) (has_bit x) ≡ q + 4 * count j (has_bit x) + length (stated (b j) (v j))
  bid_step j l =
      let f : only (has_bit x j) 1 ≡ only (b j) 1 = ap (λ c. only c 1) (ap (λ y. has_bit y j) e ∙ pack_bit m b j l) in
      omega (arith, count_suc j (has_bit x), stated_length (b j) (v j))

  first_bid : q + 4 * count 0 (has_bit x) ≡ q
  first_bid = omega (arith, count_start (has_bit x))

  bids_place : q + 4 * count m (has_bit x) ≡ q + length (joined m (λ j. stated (b j) (v j)))
  bids_place =
      omega (arith, first_bid, joined_place s (λ j. q + 4 * count j (has_bit x)) (λ j. stated (b j) (v j)) m bid_step)

  bids_hold :
      Bytes s → ((j : ℕ) → j < m → b j ≡ true → little_endian s (q + 4 * count j (has_bit x)) 4 ≡ v j)
      → Holds s q (joined m (λ j. stated (b j) (v j)))
  bids_hold y h =
      rw first_bid at (joined_holds s (λ j. q + 4 * count j (has_bit x)) (λ j. stated (b j) (v j)) m bid_step
      (λ j l. stated_holds s y _ (b j) (v j) (h j l)))

  bids_held :
      ((j : ℕ) → j < m → v j < 256 ^ 4) → Holds s q (joined m (λ j. stated (b j) (v j))) → (j : ℕ) → j < m → b j ≡ true
      → little_endian s (q + 4 * count j (has_bit x)) 4 ≡ v j
  bids_held f h j l c =
      holds_stated s _ (b j) (v j) (f j l) c (joined_each s (λ j. q + 4 * count j (has_bit x)) (λ j. stated (b j) (v j))
      m (λ j l _. bid_step j l) (rw first_bid h) j l)

-- ---- one row, at p
module _ (t : Tables) (set : ℕ → ℕ → Bool) (s : List ℕ) (i p : ℕ) where
  amount_long : p + length (amount_bytes t i) ≡ p + 2
  amount_long = omega (arith, bytes_length 2 (get_or t.amounts i 0))

  ticket_long : p + 2 + length (ticket_bytes t i) ≡ p + 6
  ticket_long = omega (arith, bytes_length 4 (get_or t.tickets i 0))

  map_long : p + 6 + length (map_bytes t set i) ≡ bids_at (m t) p
  map_long = omega (arith, bids_at_lem (m t) p, bytes_length (map_width (m t)) (pack (m t) (set i)))

  row_place_lem : map_at s (m t) p ≡ pack (m t) (set i) → next_at s (m t) p ≡ p + length (row t set i)
  unfolding row next_at
  row_place_lem e =
      simp length-append (omega (
        arith,
        amount_long,
        ticket_long,
        map_long,
        bids_place s (m t) (map_at s (m t) p) (bids_at (m t) p) (set i) (bid_at t i) e,
      ))

  row_holds : Bytes s → little_endian s p 2 ≡ get_or t.amounts i 0 → little_endian s (p + 2) 4 ≡ get_or t.tickets i 0
      → map_at s (m t) p ≡ pack (m t) (set i)
      → ((j : ℕ) → j < m t → set i j ≡ true
      → little_endian s (bids_at (m t) p + 4 * count j (has_bit (map_at s (m t) p))) 4 ≡ bid_at t i j)
      → Holds s p (row t set i)
  unfolding row map_at
  row_holds y a b e h =
      holds_then s p (p + 2) (amount_bytes t i) _ (number_holds s y p 2 _ a) amount_long
      (holds_then s (p + 2) (p + 6) (ticket_bytes t i) _ (number_holds s y (p + 2) 4 _ b) ticket_long
      (holds_then s (p + 6) (bids_at (m t) p) (map_bytes t set i) _
      (number_holds s y (p + 6) (map_width (m t)) _ e) map_long
      (bids_hold s (m t) (map_at s (m t) p) (bids_at (m t) p) (set i) (bid_at t i) e y h)))

  module _ (h : Holds s p (row t set i)) where
    row_amount : get_or t.amounts i 0 < 256 ^ 2 → little_endian s p 2 ≡ get_or t.amounts i 0
    unfolding row
    row_amount f = holds_number s p 2 _ f (holds_left s p (amount_bytes t i) _ h)

    after_amount :
        Holds s (p + 2) (ticket_bytes t i ++ (map_bytes t set i ++ joined (m t) (λ j. stated (set i j) (bid_at t i j))))
    unfolding row
    after_amount = holds_next s p (p + 2) (amount_bytes t i) _ amount_long h

    row_ticket : get_or t.tickets i 0 < 256 ^ 4 → little_endian s (p + 2) 4 ≡ get_or t.tickets i 0
    row_ticket f = holds_number s (p + 2) 4 _ f (holds_left s (p + 2) (ticket_bytes t i) _ after_amount)

    after_ticket : Holds s (p + 6) (map_bytes t set i ++ joined (m t) (λ j. stated (set i j) (bid_at t i j)))
    after_ticket = holds_next s (p + 2) (p + 6) (ticket_bytes t i) _ ticket_long after_amount

    row_map_lem : map_at s (m t) p ≡ pack (m t) (set i)
    unfolding map_at
    row_map_lem =
        holds_number s (p + 6) (map_width (m t)) _ (pack_fits (m t) (set i))
        (holds_left s (p + 6) (map_bytes t set i) _ after_ticket)

    row_bids_lem : ((j : ℕ) → j < m t → bid_at t i j < 256 ^ 4)
        → (j : ℕ) → j < m t → set i j ≡ true
        → little_endian s (bids_at (m t) p + 4 * count j (has_bit (map_at s (m t) p))) 4 ≡ bid_at t i j
    row_bids_lem f = bids_held s (m t) (map_at s (m t) p) (bids_at (m t) p) (set i) (bid_at t i) row_map_lem f
        (holds_next s (p + 6) (bids_at (m t) p) (map_bytes t set i) _ map_long after_ticket)

-- ---- one station, at p
module _ (t : Tables) (s : List ℕ) (j p : ℕ) where
  ask_long : p + length (ask_bytes t j) ≡ p + 4
  ask_long = omega (arith, bytes_length 4 (get_or t.asks j 0))

  station_holds :
      Bytes s → little_endian s p 4 ≡ get_or t.asks j 0 → little_endian s (p + 4) 2 ≡ get_or t.bays j 0
      → Holds s p (station t j)
  unfolding station
  station_holds y a b =
      holds_then s p (p + 4) (ask_bytes t j) _ (number_holds s y p 4 _ a) ask_long (number_holds s y (p + 4) 2 _ b)

  station_held :
      get_or t.asks j 0 < 256 ^ 4 → get_or t.bays j 0 < 256 ^ 2 → Holds s p (station t j)
      → (little_endian s p 4 ≡ get_or t.asks j 0) × (little_endian s (p + 4) 2 ≡ get_or t.bays j 0)
  unfolding station
  station_held f g h = (
    holds_number s p 4 _ f (holds_left s p (ask_bytes t j) _ h),
    holds_number s (p + 4) 2 _ g (holds_next s p (p + 4) (ask_bytes t j) _ ask_long h),
  )

-- the fields of a sheet, each at its place, are those of t with the bits `set`
pub record Fields (s : List ℕ) (t : Tables) (set : ℕ → ℕ → Bool) : Type 0 where
  pub n_is : guests s ≡ n t
  pub m_is : stations s ≡ m t
  pub ask_is : (j : ℕ) → j < m t → little_endian s (4 + 6 * j) 4 ≡ get_or t.asks j 0
  pub bays_are : (j : ℕ) → j < m t → little_endian s (8 + 6 * j) 2 ≡ get_or t.bays j 0
  pub amount_is : (i : ℕ) → i < n t → little_endian s (row_at s (m t) i) 2 ≡ get_or t.amounts i 0
  pub ticket_is : (i : ℕ) → i < n t → little_endian s (row_at s (m t) i + 2) 4 ≡ get_or t.tickets i 0
  pub map_is : (i : ℕ) → i < n t → map_at s (m t) (row_at s (m t) i) ≡ pack (m t) (set i)
  pub bid_is : (i j : ℕ) → i < n t → j < m t → set i j ≡ true
      → little_endian s (bids_at (m t) (row_at s (m t) i) + 4 * count j (has_bit (map_at s (m t) (row_at s (m t) i)))) 4
      ≡ bid_at t i j
  pub end : row_at s (m t) (n t) ≡ length s

pub row_suc : (s : List ℕ) (m i : ℕ) → row_at s m (suc i) ≡ next_at s m (row_at s m i)
unfolding row_at
row_suc s m i = refl

module _ (s : List ℕ) (t : Tables) (set : ℕ → ℕ → Bool) where
  n_long : 0 + length (bytes_of 2 (n t)) ≡ 2
  n_long = omega (arith, bytes_length 2 (n t))

  m_long : 2 + length (bytes_of 2 (m t)) ≡ 4
  m_long = omega (arith, bytes_length 2 (m t))

  six : (j : ℕ) → 4 + 6 * suc j ≡ 4 + 6 * j + length (station t j)
  six j = omega (arith, station_length t j)

  stations_long : 4 + length (joined (m t) (station t)) ≡ row_at s (m t) 0
  stations_long = omega (arith, first_row s (m t), joined_place s (λ j. 4 + 6 * j) (station t) (m t) (λ j _. six j))

  layout_long : (p : ℕ) → p ≡ row_at s (m t) 0 + length (joined (n t) (row t set)) → length (layout t set) ≡ p
  unfolding layout
  layout_long p e = simp length-append (omega (arith, n_long, m_long, stations_long))

  row_step :
      (i : ℕ) → map_at s (m t) (row_at s (m t) i) ≡ pack (m t) (set i)
      → row_at s (m t) (suc i) ≡ row_at s (m t) i + length (row t set i)
  row_step i e = row_suc s (m t) i ∙ row_place_lem t set s i (row_at s (m t) i) e

  -- such a sheet is the layout
  pub fields_layout : Bytes s → Fields s t set → s ≡ layout t set
  unfolding layout guests stations
  fields_layout y f = holds_all s (layout t set)
      (holds_then s 0 2 (bytes_of 2 (n t)) _ (number_holds s y 0 2 _ f.n_is) n_long
      (holds_then s 2 4 (bytes_of 2 (m t)) _ (number_holds s y 2 2 _ f.m_is) m_long
      (holds_then s 4 (row_at s (m t) 0) (joined (m t) (station t)) _
      (joined_holds s (λ j. 4 + 6 * j) (station t) (m t) (λ j _. six j) (λ j l. station_holds t s j (4 + 6 * j) y
      (f.ask_is j l) (let e : 4 + 6 * j + 4 ≡ 8 + 6 * j = omega arith in rw e (f.bays_are j l))))
      stations_long
      (joined_holds s (row_at s (m t)) (row t set) (n t) (λ i l. row_step i (f.map_is i l))
      (λ i l. row_holds t set s i (row_at s (m t) i) y (f.amount_is i l) (f.ticket_is i l) (f.map_is i l)
      (λ j k. f.bid_is i j l k))))))
      (sym (layout_long (length s)
      (sym f.end ∙ joined_place s (row_at s (m t)) (row t set) (n t) (λ i l. row_step i (f.map_is i l)))))

  -- and the layout has such fields
  module _ (g : Fitting t) (e : s ≡ layout t set) where
    from_0 : Holds s 0
        (bytes_of 2 (n t) ++ (bytes_of 2 (m t) ++ (joined (m t) (station t) ++ joined (n t) (row t set))))
    unfolding layout
    from_0 = subst (λ y. Holds s 0 y) e (holds_self s)

    from_2 : Holds s 2 (bytes_of 2 (m t) ++ (joined (m t) (station t) ++ joined (n t) (row t set)))
    from_2 = holds_next s 0 2 (bytes_of 2 (n t)) _ n_long from_0

    from_4 : Holds s 4 (joined (m t) (station t) ++ joined (n t) (row t set))
    from_4 = holds_next s 2 4 (bytes_of 2 (m t)) _ m_long from_2

    station_at :
        (j : ℕ) → j < m t
        → (little_endian s (4 + 6 * j) 4 ≡ get_or t.asks j 0) × (little_endian s (4 + 6 * j + 4) 2 ≡ get_or t.bays j 0)
    station_at j l = station_held t s j (4 + 6 * j) (g.ask_fits j l) (g.bays_fit j l)
        (joined_each s (λ j. 4 + 6 * j) (station t) (m t) (λ j _ _. six j)
        (holds_left s 4 (joined (m t) (station t)) _ from_4) j l)

    row_at_lem : (i : ℕ) → i < n t → Holds s (row_at s (m t) i) (row t set i)
    row_at_lem =
        joined_each s (row_at s (m t)) (row t set) (n t)
        (λ i _ h. row_step i (row_map_lem t set s i (row_at s (m t) i) h))
        (holds_next s 4 (row_at s (m t) 0) (joined (m t) (station t)) _ stations_long from_4)

    map_at_lem : (i : ℕ) → i < n t → map_at s (m t) (row_at s (m t) i) ≡ pack (m t) (set i)
    map_at_lem i l = row_map_lem t set s i (row_at s (m t) i) (row_at_lem i l)

    pub layout_fields : Fields s t set
    unfolding guests stations
    layout_fields = record {
      n_is = holds_number s 0 2 _ (omega (arith, g.shape.guests_most)) (holds_left s 0 (bytes_of 2 (n t)) _ from_0);
      m_is = holds_number s 2 2 _ (omega (arith, g.shape.stations_most)) (holds_left s 2 (bytes_of 2 (m t)) _ from_2);
      ask_is = λ j l. (station_at j l).0;
      bays_are = λ j l. let z : 8 + 6 * j ≡ 4 + 6 * j + 4 = omega arith in rw z (station_at j l).1;
      amount_is = λ i l. row_amount t set s i (row_at s (m t) i) (row_at_lem i l) (g.amount_fits i l);
      ticket_is = λ i l. row_ticket t set s i (row_at s (m t) i) (row_at_lem i l) (g.ticket_fits i l);
      map_is = map_at_lem;
      bid_is = λ i j l k. row_bids_lem t set s i (row_at s (m t) i) (row_at_lem i l) (λ j k. g.bid_fits i j l k) j k;
      end = joined_place s (row_at s (m t)) (row t set) (n t) (λ i l. row_step i (map_at_lem i l))
          ∙ sym (layout_long _ refl) ∙ ap length (sym e);
    }

-- ---- sheets with the same bits are one

module _ (t : Tables) (a b : ℕ → ℕ → Bool)
    (same : (i j : ℕ) → i < length t.amounts → j < length t.asks → a i j ≡ b i j) where
  row_cong : (i : ℕ) → i < length t.amounts → row t a i ≡ row t b i
  unfolding row
  row_cong i l =
      ap₂ (λ x y. bytes_of 2 (get_or t.amounts i 0)
      ++ (bytes_of 4 (get_or t.tickets i 0) ++ (bytes_of (map_width (length t.asks)) x ++ y)))
      (pack_cong (length t.asks) (a i) (b i) (λ j k. same i j l k))
      (joined_cong (length t.asks) (λ j. stated (a i j) (bid_at t i j)) (λ j. stated (b i j) (bid_at t i j))
      (λ j k. ap (λ c. stated c (bid_at t i j)) (same i j l k)))

  pub layout_cong : layout t a ≡ layout t b
  unfolding layout
  layout_cong =
      ap (λ x. bytes_of 2 (length t.amounts)
      ++ (bytes_of 2 (length t.asks) ++ (joined (length t.asks) (station t) ++ x)))
      (joined_cong (length t.amounts) (row t a) (row t b) row_cong)
