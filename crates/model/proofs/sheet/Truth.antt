-- A sheet is read as a market exactly where it states that market.
use Prim.Native.Nat.{ℕ, zero, suc, ◌+◌, ◌*◌, ◌^◌, ◌<◌, ◌≤◌}
use mathlib.Core.Bool.{Bool, true, false}
use mathlib.Core.List.{List}
use mathlib.Core.Logic.{⊎_elim}
use mathlib.Core.Path.{◌≡◌, refl, sym, ap, ◌∙◌, subst}
use native.Mathlib.Nat.{eq-or-lt_of_le, le_of_suc-le-suc, le_antisymm}
use native.Mathlib.Omega.{arith}
use lib.ListN.{length, get_or}
use lib.Seq.{ext_get_or}
use Rattle.model.specs.Counting.{only, count, list}
use Rattle.model.specs.market.Market.{Tables, bid_at}
use Rattle.model.specs.Verdicts.{◌gives◌, accepted, refused, first_fault}
use Rattle.model.specs.market.Faults.{counts}
use Rattle.model.proofs.Verdicts.{giving_accepted, giving_refused, gave_accepted}
use Rattle.model.proofs.Counting.{here, length_list, get_d_list, count_place, count_less}
use Rattle.model.proofs.Tests.{decide, only_le, only_yes, only_no, lt_yes, lt_no, is_lt, not_lt}
use Rattle.model.specs.sheet.Fields.{little_endian, has_bit}
use Rattle.model.specs.sheet.Rows.{map_at, bids_at, next_at, row_at, ask_of, bays_of, amount_of, ticket_of, bid_by}
use Rattle.model.specs.sheet.Rows.{bid_of, rows_faults}
use Rattle.model.proofs.sheet.Rows.{bids_at_lem, RowSound, row_either, rows_either, sound_at, all_sound, first_row}
use Rattle.model.proofs.sheet.Fields.{number_low}
use Rattle.model.proofs.sheet.Joined.{joined_length, get_d_joined, joined_is}
use Rattle.model.specs.sheet.Content.{guests, stations, tables_of, sheet_faults, read_sheet}
use Rattle.model.proofs.sheet.Faults.{Headed, counts_good, bad_rows, whole, Sound, sheet_sound}
use Rattle.model.specs.sheet.Layout.{layout, bidden, Fitting, States, Bytes, ReadsExactlyWhatIsStated}
use Rattle.model.specs.sheet.Layout.{StatesOneMarket, StatedByOneSheet, EmptyBidIsRefused}
use Rattle.model.proofs.sheet.Holds.{pack_bit, pack_low, pack_bits}
use Rattle.model.proofs.sheet.Stated.{n, m, Fields, row_suc, fields_layout, layout_fields, layout_cong}

-- ---- lists by their places

pub list_is : (n : ℕ) (f : ℕ → ℕ) (l : List ℕ) → length l ≡ n → ((k : ℕ) → k < n → f k ≡ get_or l k 0) → list n f ≡ l
list_is n f l e h =
    ext_get_or 0 (list n f) l (length_list n f ∙ sym e)
    (λ k b. let c : k < n = omega (arith, length_list n f) in get_d_list n f k c ∙ h k c)

only_low : (b : Bool) (x : ℕ) {y : ℕ} → x < y → only b x < y
only_low b x h = omega (arith, only_le b x x (λ e. omega arith))

-- ---- rows rise, and end where the sheet does

next_more : (s : List ℕ) (m p : ℕ) → bids_at m p ≤ next_at s m p
unfolding next_at
next_more s m p = omega arith

rise : (s : List ℕ) (m n i : ℕ) → i ≤ n → row_at s m i ≤ row_at s m n
rise s m zero i l = let e : i ≡ 0 = omega arith in rw e (omega arith)
rise s m (suc n) i l = ⊎_elim
    (λ (e : i ≡ suc n). rw e (omega arith))
    (λ (h : i < suc n). omega (
      arith,
      rise s m n i (le_of_suc-le-suc h),
      row_suc s m n,
      next_more s m (row_at s m n),
      bids_at_lem m
          (row_at s m n),
    ))
    (eq-or-lt_of_le l)

within :
    (s : List ℕ) (m n : ℕ) → 4 + 6 * m ≤ length s → first_fault (rows_faults s m n) ≡ accepted tt
    → row_at s m n ≤ length s
within s m zero h e = omega (arith, first_row s m)
within s m (suc n) h e = omega (arith, row_suc s m n, (sound_at s m (suc n) n (row_at s m n) e here refl).bids_in)

-- ---- a sheet with a market's fields, whatever bits are set

module _ (s : List ℕ) (t : Tables) (set : ℕ → ℕ → Bool) (g : Fitting t) (f : Fields s t set) where
  set_is : (i j : ℕ) → i < n t → j < m t → has_bit (map_at s (m t) (row_at s (m t) i)) j ≡ set i j
  set_is i j l k = ap (λ x. has_bit x j) (f.map_is i l) ∙ pack_bit (m t) (set i) j k

  no_stray : (i : ℕ) → i < n t → map_at s (m t) (row_at s (m t) i) < 2 ^ m t
  no_stray i l = rw (f.map_is i l) (pack_low (m t) (set i))

  bids_in : (i : ℕ) → i < n t → next_at s (m t) (row_at s (m t) i) ≤ length s
  bids_in i l = omega (arith, row_suc s (m t) i, rise s (m t) (n t) (suc i) l, f.end)

  map_in : (i : ℕ) → i < n t → bids_at (m t) (row_at s (m t) i) ≤ length s
  map_in i l = omega (arith, next_more s (m t) (row_at s (m t) i), bids_in i l)

  stations_in : 4 + 6 * m t ≤ length s
  stations_in = omega (arith, first_row s (m t), rise s (m t) (n t) 0 (omega arith), f.end)

  headed : Headed s (n t) (m t)
  headed = record { within = omega (arith, stations_in); n_is = sym f.n_is; m_is = sym f.m_is }

  counts_are : counts (n t) (m t) ≡ (false gives 2)
  counts_are = counts_good (n t) (m t) g.shape.guests_most g.shape.stations_least g.shape.stations_most

  -- a set bit whose bid is 0
  module _ (i j : ℕ) (l : i < n t) (k : j < m t) (b : set i j ≡ true) (z : bid_at t i j ≡ 0) where
    not_accepted : first_fault (rows_faults s (m t) (n t)) ≡ accepted tt → ⊥
    not_accepted e =
        let stands = (sound_at s (m t) (n t) i _ e l refl).no_empty _ (count_less _ _ j k (set_is i j l k ∙ b)) in
        omega (arith, stands, f.bid_is i j l k b)

    empty_refused : first_fault (sheet_faults s) ≡ refused 19
    empty_refused = bad_rows headed counts_are stations_in (⊎_elim
        (λ (e : first_fault (rows_faults s (m t) (n t)) ≡ accepted tt). absurd (not_accepted e))
        (λ (e : first_fault (rows_faults s (m t) (n t)) ≡ refused 19). e)
        (rows_either s (m t) (n t)
        (λ i l. row_either s (m t) (row_at s (m t) i) (map_in i l) (no_stray i l) (bids_in i l))))

pub empty_bid_is_refused : EmptyBidIsRefused
unfolding read_sheet
empty_bid_is_refused t set i j g l k b z =
    giving_refused _ 19 (empty_refused (layout t set) t set g (layout_fields _ t set g refl) i j l k b z)

-- ---- a sheet that states a market is read as it

no_bid : (t : Tables) (i j : ℕ) → bidden t i j ≡ false → bid_at t i j ≡ 0
unfolding bidden
no_bid t i j e = omega (arith, lt_no 0 (bid_at t i j) e)

module _ (s : List ℕ) (t : Tables) (g : Fitting t) (f : Fields s t (bidden t)) where
  has_bit_lem : (i j : ℕ) → i < n t → j < m t → has_bit (map_at s (m t) (row_at s (m t) i)) j ≡ bidden t i j
  has_bit_lem = set_is s t (bidden t) g f

  -- each field is that of a bid that is not 0
  no_empty :
      (i k : ℕ) → i < n t → k < count (m t) (has_bit (map_at s (m t) (row_at s (m t) i)))
      → 0 < little_endian s (bids_at (m t) (row_at s (m t) i) + 4 * k) 4
  unfolding bidden
  no_empty i k l h =
      let (j, lj, b, e) = count_place (m t) (has_bit (map_at s (m t) (row_at s (m t) i))) k h in
      let c : bidden t i j ≡ true = sym (has_bit_lem i j l lj) ∙ b in
      let field = f.bid_is i j l lj c in
      let same : little_endian s (bids_at (m t) (row_at s (m t) i) + 4 * k) 4 ≡ bid_at t i j =
      ap (λ x. little_endian s (bids_at (m t) (row_at s (m t) i) + 4 * x) 4) (sym e) ∙ field in
      rw same (lt_yes 0 (bid_at t i j) c)

  row_is_sound : (i : ℕ) → i < n t → RowSound s (m t) (row_at s (m t) i)
  row_is_sound i l = record {
    map_in = map_in s t (bidden t) g f i l;
    no_stray = no_stray s t (bidden t) g f i l;
    bids_in = bids_in s t (bidden t) g f i l;
    no_empty = λ k h. no_empty i k l h;
  }

  no_fault_in : first_fault (sheet_faults s) ≡ accepted tt
  no_fault_in =
      whole (headed s t (bidden t) g f) (counts_are s t (bidden t) g f) (stations_in s t (bidden t) g f)
      (all_sound s (m t) (n t) row_is_sound) (omega (arith, f.end))

  bid_same : (i j : ℕ) → i < n t → j < m t → bid_of s (m t) i j ≡ bid_at t i j
  unfolding bid_of bid_by
  bid_same i j l k = ⊎_elim
      (λ (b : bidden t i j ≡ true). only_yes _ _ (has_bit_lem i j l k ∙ b) ∙ f.bid_is i j l k b)
      (λ (b : bidden t i j ≡ false). only_no _ _ (has_bit_lem i j l k ∙ b) ∙ sym (no_bid t i j b))
      (decide (bidden t i j))

  tables_same : tables_of s ≡ t
  unfolding tables_of ask_of bays_of amount_of ticket_of bid_at
  tables_same = rw (f.n_is, f.m_is) (λ x. record {
    asks = list_is (m t) (λ j. little_endian s (4 + 6 * j) 4) t.asks refl f.ask_is x;
    bays = list_is (m t) (λ j. little_endian s (8 + 6 * j) 2) t.bays g.shape.bays_length f.bays_are x;
    amounts = list_is (n t) (λ i. little_endian s (row_at s (m t) i) 2) t.amounts refl f.amount_is x;
    tickets = list_is (n t) (λ i. little_endian s (row_at s (m t) i + 2) 4) t.tickets g.shape.tickets_length
        f.ticket_is x;
    bids = joined_is (n t) (m t) (bid_of s (m t)) t.bids g.shape.stations_least
        g.shape.bids_length bid_same x;
    width = sym g.shape.width_is x;
  })

  fields_read : read_sheet s ≡ accepted t
  unfolding read_sheet
  fields_read = giving_accepted (tables_of s) no_fault_in ∙ ap accepted tables_same

pub states_read : (s : List ℕ) (t : Tables) → States s t → read_sheet s ≡ accepted t
states_read s t w = fields_read s t w.fitting (layout_fields s t (bidden t) w.fitting w.is)

-- ---- and a sheet that is read as a market states it

-- t's tables are the sheet's, place by place
pub record Is (s : List ℕ) (t : Tables) : Type 0 where
  pub n_is : n t ≡ guests s
  pub m_is : m t ≡ stations s
  pub width_is : t.width ≡ m t
  pub bays_long : length t.bays ≡ m t
  pub tickets_long : length t.tickets ≡ n t
  pub bids_long : length t.bids ≡ n t * m t
  pub ask_at : (j : ℕ) → j < m t → get_or t.asks j 0 ≡ little_endian s (4 + 6 * j) 4
  pub bays_at : (j : ℕ) → j < m t → get_or t.bays j 0 ≡ little_endian s (8 + 6 * j) 2
  pub amount_at : (i : ℕ) → i < n t → get_or t.amounts i 0 ≡ little_endian s (row_at s (m t) i) 2
  pub ticket_at : (i : ℕ) → i < n t → get_or t.tickets i 0 ≡ little_endian s (row_at s (m t) i + 2) 4
  pub bid_at_lem : (i j : ℕ) → i < n t → j < m t → bid_at t i j ≡ bid_of s (m t) i j

pub tables_are : (s : List ℕ) → Is s (tables_of s)
unfolding tables_of bid_at ask_of bays_of amount_of ticket_of
tables_are s = record {
  n_is = length_list (guests s) _;
  m_is = length_list (stations s) _;
  width_is = sym (length_list (stations s) _);
  bays_long = length_list (stations s) _ ∙ sym (length_list (stations s) _);
  tickets_long = length_list (guests s) _ ∙ sym (length_list (guests s) _);
  bids_long = simp (length_list, joined_length);
  ask_at = λ j l. get_d_list (stations s) _ j (rw length_list at l);
  bays_at = λ j l. get_d_list (stations s) _ j (rw length_list at l);
  amount_at = λ i l. simp length_list (get_d_list (guests s) _ i (rw length_list at l));
  ticket_at = λ i l. simp length_list (get_d_list (guests s) _ i (rw length_list at l));
  bid_at_lem = λ i j l k. simp length_list
      (get_d_joined (guests s) (stations s) (bid_of s (stations s)) i j (rw length_list at l) (rw length_list at k));
}

module _ (s : List ℕ) (t : Tables) (y : Bytes s) (z : first_fault (sheet_faults s) ≡ accepted tt) (w : Is s t) where
  sound : Sound s
  sound = sheet_sound s z

  rows_in : first_fault (rows_faults s (m t) (n t)) ≡ accepted tt
  rows_in = rw (w.m_is, w.n_is) sound.rows_in

  set : ℕ → ℕ → Bool
  set i = has_bit (map_at s (m t) (row_at s (m t) i))

  fits : Fitting t
  unfolding bid_of bid_by
  fits = record {
    shape = record {
      guests_most = omega (arith, w.n_is, sound.few);
      stations_least = omega (arith, w.m_is, sound.some);
      stations_most = omega (arith, w.m_is, sound.narrow);
      bays_length = w.bays_long;
      tickets_length = w.tickets_long;
      bids_length = w.bids_long;
      width_is = w.width_is;
    };
    ask_fits = λ j l. rw (w.ask_at j l) (number_low s y _ 4);
    bays_fit = λ j l. rw (w.bays_at j l) (number_low s y _ 2);
    amount_fits = λ i l. rw (w.amount_at i l) (number_low s y _ 2);
    ticket_fits = λ i l. rw (w.ticket_at i l) (number_low s y _ 4);
    bid_fits = λ i j l k. rw (w.bid_at_lem i j l k) (only_low _ _ (number_low s y _ 4));
  }

  fields : Fields s t set
  unfolding bid_of bid_by set
  fields = record {
    n_is = sym w.n_is;
    m_is = sym w.m_is;
    ask_is = λ j l. sym (w.ask_at j l);
    bays_are = λ j l. sym (w.bays_at j l);
    amount_is = λ i l. sym (w.amount_at i l);
    ticket_is = λ i l. sym (w.ticket_at i l);
    map_is = λ i l. sym (pack_bits (m t) _ (sound_at s (m t) (n t) i _ rows_in l refl).no_stray);
    bid_is = λ i j l k b. sym (w.bid_at_lem i j l k ∙ only_yes _ _ b);
    end = le_antisymm (within s (m t) (n t) (omega (arith, w.m_is, sound.stations_in)) rows_in)
        (rw (w.m_is, w.n_is) sound.end);
  }

  -- the set bits are those of the bids that are not 0
  set_bids : (i j : ℕ) → i < n t → j < m t → set i j ≡ bidden t i j
  unfolding bid_of bid_by set bidden
  set_bids i j l k = ⊎_elim
      (λ (b : set i j ≡ true).
      let bid = w.bid_at_lem i j l k ∙ only_yes _ _ b in
      let stands = (sound_at s (m t) (n t) i _ rows_in l refl).no_empty _ (count_less _ _ j k b) in
      b ∙ sym (is_lt 0 (bid_at t i j) (rw bid stands)))
      (λ (b : set i j ≡ false).
      let bid = w.bid_at_lem i j l k ∙ only_no _ _ b in
      b ∙ sym (not_lt 0 (bid_at t i j) (omega arith)))
      (decide (set i j))

  states : States s t
  states = record { fitting = fits; is = fields_layout s t set y fields ∙ layout_cong t set (bidden t) set_bids }

read_states : (s : List ℕ) (t : Tables) → Bytes s → read_sheet s ≡ accepted t → States s t
unfolding read_sheet
read_states s t y e =
    let (a, b) = gave_accepted (first_fault (sheet_faults s)) (tables_of s) t e in
    states s t y a (subst (λ u. Is s u) b (tables_are s))

-- ---- the statements

pub reads_exactly_what_is_stated : ReadsExactlyWhatIsStated
reads_exactly_what_is_stated s t y = (read_states s t y, states_read s t)

pub states_one_market : StatesOneMarket
states_one_market s t u a b =
    let e : accepted t ≡ accepted u = sym (states_read s t a) ∙ states_read s u b in
    let f : t ≡ u = cc in f

pub stated_by_one_sheet : StatedByOneSheet
stated_by_one_sheet s s' t a b = b.is ∙ sym a.is
