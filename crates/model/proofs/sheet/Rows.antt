-- Laws of rows: their faults, one by one and all together, and what their absence gives.
use Prim.Native.Nat.{ℕ, zero, suc, ◌+◌, ◌*◌, ◌/◌, ◌^◌, ◌≤◌, ◌<◌}
use mathlib.Core.Bool.{Bool, true, false}
use mathlib.Core.List.{List, ◌∷◌}
use mathlib.Core.Logic.{◌⊎◌, inl, inr, ⊎_elim}
use mathlib.Core.Path.{◌≡◌, refl, sym, ap, ◌∙◌}
use native.Mathlib.Numerals.{add-one}
use native.Mathlib.Omega.{arith}
use lib.ListN.{length}
use Rattle.model.specs.Counting.{◌<?◌, count, some}
use Rattle.model.specs.Verdicts.{◌gives◌, accepted, refused, first_fault}
use Rattle.model.proofs.Counting.{some_no}
use Rattle.model.proofs.Tests.{decide, clash, or_skip, lt_no, is_lt, not_lt, eq_no, not_eq, lt_or_le}
use Rattle.model.proofs.Verdicts.{fault_here, fault_later, fault_none, no_fault}
use Rattle.model.proofs.Verdicts.{faults_none, faults_suc, faults_split, faults_first, faults_each, faults_all}
use Rattle.model.proofs.Verdicts.{faults_either}
use Rattle.model.specs.sheet.Fields.{little_endian, map_width, has_bit}
use Rattle.model.specs.sheet.Rows.{map_at, bids_at, next_at, row_at, is_empty, bid_faults, bids_faults, row_faults}
use Rattle.model.specs.sheet.Rows.{rows_faults}
use Rattle.model.proofs.sheet.Fields.{narrow, wide, count_narrow}

-- ---- a bid field, at p

not_empty : (s : List ℕ) (p : ℕ) → is_empty s p ≡ false → 0 < little_endian s p 4
not_empty s p e = ⊎_elim
    (λ (l : 0 < little_endian s p 4). l)
    (λ (l : little_endian s p 4 ≤ 0). absurd (eq_no (little_endian s p 4) 0 e (omega arith)))
    (lt_or_le 0 _)

module _ (s : List ℕ) (p : ℕ) where
  bid_ends : length s < p + 4 → first_fault (bid_faults s p) ≡ refused 1
  unfolding bid_faults
  bid_ends h = fault_here _ (is_lt _ _ h)

  bid_empty : p + 4 ≤ length s → is_empty s p ≡ true → first_fault (bid_faults s p) ≡ refused 19
  unfolding bid_faults
  bid_empty h e = fault_later _ _ (not_lt _ _ h) ∙ fault_here _ e

  bid_good : p + 4 ≤ length s → 0 < little_endian s p 4 → first_fault (bid_faults s p) ≡ accepted tt
  unfolding bid_faults
  bid_good h g = fault_later _ _ (not_lt _ _ h) ∙ fault_later _ _ (not_eq _ 0 (λ e. omega arith)) ∙ fault_none

  bid_sound : first_fault (bid_faults s p) ≡ accepted tt → (p + 4 ≤ length s) × (0 < little_endian s p 4)
  unfolding bid_faults
  bid_sound e =
      let (a, e1) = no_fault _ _ _ e in let (b, e2) = no_fault _ _ _ e1 in
      (lt_no _ _ a, not_empty s p b)

-- ---- bid fields, from q on

-- one of k is empty
abbrev pub any_empty : List ℕ → (q k : ℕ) → Bool
any_empty s q k = some k (λ i. is_empty s (q + 4 * i))

module _ (s : List ℕ) (q : ℕ) where
  none_empty : (k : ℕ) → any_empty s q k ≡ false → (i : ℕ) → i < k → 0 < little_endian s (q + 4 * i) 4
  none_empty k e i l = not_empty s (q + 4 * i) (some_no k _ e i l)

  bids_good :
      (k : ℕ) → q + 4 * k ≤ length s → ((i : ℕ) → i < k → 0 < little_endian s (q + 4 * i) 4)
      → first_fault (bids_faults s q k) ≡ accepted tt
  unfolding bids_faults
  bids_good k h g = faults_all _ k (λ i l. bid_good s (q + 4 * i) (omega arith) (g i l))

  -- of n fields the first k are whole, and one of those is empty
  bids_empty :
      (k n : ℕ) → k ≤ n → q + 4 * k ≤ length s → any_empty s q k ≡ true
      → first_fault (bids_faults s q n) ≡ refused 19
  unfolding some bids_faults
  bids_empty zero n l h e = absurd (clash e refl)
  bids_empty (suc k) n l h e = ⊎_elim
      (λ (b : any_empty s q k ≡ true). bids_empty k n (omega arith) (omega arith) b)
      (λ (b : any_empty s q k ≡ false).
      faults_first _ n k l (bids_good k (omega arith) (none_empty k b))
      (bid_empty s (q + 4 * k) (omega arith) (sym (or_skip _ b) ∙ e)))
      (decide (any_empty s q k))

  -- all are whole
  bids_either :
      (k : ℕ) → q + 4 * k ≤ length s
      → (first_fault (bids_faults s q k) ≡ accepted tt) ⊎ (first_fault (bids_faults s q k) ≡ refused 19)
  bids_either k h = ⊎_elim
      (λ (b : any_empty s q k ≡ true). inr (bids_empty k k (omega arith) h b))
      (λ (b : any_empty s q k ≡ false). inl (bids_good k h (none_empty k b)))
      (decide (any_empty s q k))

  -- none is, and the sheet ends inside the next one
  bids_cut :
      (k n : ℕ) → k < n → q + 4 * k ≤ length s → any_empty s q k ≡ false
      → length s < q + 4 * k + 4 → first_fault (bids_faults s q n) ≡ refused 1
  unfolding bids_faults
  bids_cut k n l h e c =
      faults_first _ n k l (bids_good k h (none_empty k e)) (bid_ends s (q + 4 * k) c)

  bids_within :
      (k : ℕ) → q ≤ length s → first_fault (bids_faults s q k) ≡ accepted tt → q + 4 * k ≤ length s
  unfolding bids_faults
  bids_within zero h e = omega arith
  bids_within (suc k) h e = omega (arith, (bid_sound s (q + 4 * k) (faults_split _ k e).1).0)

  bids_stand :
      (k i : ℕ) → first_fault (bids_faults s q k) ≡ accepted tt → i < k → 0 < little_endian s (q + 4 * i) 4
  unfolding bids_faults
  bids_stand k i e l = (bid_sound s (q + 4 * i) (faults_each _ k i e l)).1

-- ---- a row

pub bids_at_lem : (m p : ℕ) → bids_at m p ≡ p + 6 + map_width m
unfolding bids_at
bids_at_lem m p = refl

module _ (s : List ℕ) (m p : ℕ) where
  -- inside the amount or inside the ticket
  pub head_ends : length s < p + 6 → first_fault (row_faults s m p) ≡ refused 1
  unfolding row_faults
  head_ends h = ⊎_elim
      (λ (l : length s < p + 2). fault_here _ (is_lt _ _ l))
      (λ (l : p + 2 ≤ length s). fault_later _ _ (not_lt _ _ l) ∙ fault_here _ (is_lt _ _ h))
      (lt_or_le (length s) (p + 2))

  after_head :
      p + 6 ≤ length s
      → first_fault (row_faults s m p)
      ≡ first_fault ((length s <? bids_at m p gives 1) ∷ (0 <? map_at s m p / 2 ^ m gives 3)
      ∷ bids_faults s (bids_at m p) (count m (has_bit (map_at s m p))))
  unfolding row_faults
  after_head h = fault_later _ _ (not_lt _ _ (omega arith)) ∙ fault_later _ _ (not_lt _ _ h)

  pub map_ends : p + 6 ≤ length s → length s < bids_at m p → first_fault (row_faults s m p) ≡ refused 1
  map_ends h g = after_head h ∙ fault_here _ (is_lt _ _ g)

-- the map x of the row at p is taken, and its bids start at q
pub record MapTaken (s : List ℕ) (m p x q : ℕ) : Type 0 where
  pub within : bids_at m p ≤ length s
  pub map : x ≡ map_at s m p
  pub to : q ≡ bids_at m p

module _ {s : List ℕ} {m p x q : ℕ} (t : MapTaken s m p x q) where
  after_map :
      first_fault (row_faults s m p)
      ≡ first_fault ((0 <? x / 2 ^ m gives 3) ∷ bids_faults s q (count m (has_bit x)))
  after_map =
      rw (t.map, t.to)
      (after_head s m p (omega (arith, bids_at_lem m p, t.within)) ∙ fault_later _ _ (not_lt _ _ t.within))

  pub stray : 0 < x / 2 ^ m → first_fault (row_faults s m p) ≡ refused 3
  stray g = after_map ∙ fault_here _ (is_lt _ _ g)

  pub to_next : q + 4 * count m (has_bit x) ≡ next_at s m p
  unfolding next_at
  to_next = rw (t.map, t.to) refl

  module _ (w : m ≤ 64) (g : x / 2 ^ m ≤ 0) where
    fields : count 64 (has_bit x) ≡ count m (has_bit x)
    fields = omega (arith, count_narrow m x w (narrow x m g))

    after_stray : first_fault (row_faults s m p) ≡ first_fault (bids_faults s q (count 64 (has_bit x)))
    after_stray = after_map ∙ fault_later _ _ (not_lt _ _ g) ∙ ap (λ k. first_fault (bids_faults s q k)) (sym fields)

    pub next_is : q + 4 * count 64 (has_bit x) ≡ next_at s m p
    next_is = omega (arith, to_next, fields)

    -- the first k fields are whole, and there is no more of them or the sheet ends inside the next
    module _ (k : ℕ) (h : q + 4 * k ≤ length s) where
      pub empty_bid :
          k ≤ count 64 (has_bit x) → any_empty s q k ≡ true
          → first_fault (row_faults s m p) ≡ refused 19
      empty_bid l e = after_stray ∙ bids_empty s q k _ l h e

      pub bids_end :
          k < count 64 (has_bit x) → any_empty s q k ≡ false
          → length s < q + 4 * k + 4 → first_fault (row_faults s m p) ≡ refused 1
      bids_end l e c = after_stray ∙ bids_cut s q k _ l h e c

      pub row_good :
          k ≡ count 64 (has_bit x) → any_empty s q k ≡ false
          → first_fault (row_faults s m p) ≡ accepted tt
      row_good l e =
          after_stray ∙ ap (λ k. first_fault (bids_faults s q k)) (sym l) ∙ bids_good s q k h (none_empty s q k e)

-- a row with no fault
pub record RowSound (s : List ℕ) (m p : ℕ) : Type 0 where
  pub map_in : bids_at m p ≤ length s
  pub no_stray : map_at s m p < 2 ^ m
  pub bids_in : next_at s m p ≤ length s
  pub no_empty : (k : ℕ) → k < count m (has_bit (map_at s m p)) → 0 < little_endian s (bids_at m p + 4 * k) 4

pub row_sound : (s : List ℕ) (m p : ℕ) → first_fault (row_faults s m p) ≡ accepted tt → RowSound s m p
unfolding row_faults next_at
row_sound s m p e =
    let (a, e1) = no_fault _ _ _ e in let (b, e2) = no_fault _ _ _ e1 in
    let (c, e3) = no_fault _ _ _ e2 in let (d, e4) = no_fault _ _ _ e3 in
    record {
      map_in = lt_no _ _ c;
      no_stray = narrow _ _ (lt_no _ _ d);
      bids_in = bids_within s (bids_at m p) _ (lt_no _ _ c) e4;
      no_empty = λ k l. bids_stand s (bids_at m p) _ k e4 l;
    }

-- a row whose map is there, with no stray bit
module _ (s : List ℕ) (m p : ℕ) (map_in : bids_at m p ≤ length s) (no_stray : map_at s m p < 2 ^ m) where
  after_good_map :
      first_fault (row_faults s m p) ≡ first_fault (bids_faults s (bids_at m p) (count m (has_bit (map_at s m p))))
  after_good_map =
      after_head s m p (omega (arith, bids_at_lem m p, map_in)) ∙ fault_later _ _ (not_lt _ _ map_in)
      ∙ fault_later _ _ (not_lt _ _ (wide (map_at s m p) m no_stray))

  -- and whose bids are there
  pub row_either :
      next_at s m p ≤ length s
      → (first_fault (row_faults s m p) ≡ accepted tt) ⊎ (first_fault (row_faults s m p) ≡ refused 19)
  unfolding next_at
  row_either h = rw after_good_map (bids_either s (bids_at m p) _ h)

pub sound_row : {s : List ℕ} {m p : ℕ} → RowSound s m p → first_fault (row_faults s m p) ≡ accepted tt
unfolding next_at
sound_row {s} {m} {p} t =
    after_good_map s m p t.map_in t.no_stray ∙ bids_good s (bids_at m p) _ t.bids_in t.no_empty

-- ---- the rows

pub rows_none : (s : List ℕ) (m : ℕ) → first_fault (rows_faults s m 0) ≡ accepted tt
unfolding rows_faults
rows_none s m = faults_none _

pub rows_to : (s : List ℕ) (m i p : ℕ) → p ≡ row_at s m i → next_at s m p ≡ row_at s m (i + 1)
unfolding row_at
rows_to s m i p g = rw (add-one i, g) refl

pub rows_more :
    (s : List ℕ) (m i p : ℕ) → p ≡ row_at s m i → first_fault (rows_faults s m i) ≡ accepted tt
    → first_fault (row_faults s m p) ≡ accepted tt
    → first_fault (rows_faults s m (i + 1)) ≡ accepted tt
unfolding rows_faults
rows_more s m i p g e f = rw add-one (faults_suc _ i e ∙ rw (← g) f)

-- the first fault of a row is the rows'
pub rows_fault :
    (s : List ℕ) (m n i p : ℕ) {r : ℕ} → i < n → p ≡ row_at s m i → first_fault (rows_faults s m i) ≡ accepted tt
    → first_fault (row_faults s m p) ≡ refused r → first_fault (rows_faults s m n) ≡ refused r
unfolding rows_faults
rows_fault s m n i p l g e f = faults_first _ n i l e (rw (← g) f)

pub rows_all :
    (s : List ℕ) (m i n : ℕ) → i ≡ n → first_fault (rows_faults s m i) ≡ accepted tt
    → first_fault (rows_faults s m n) ≡ accepted tt
rows_all s m i n e f = rw (← e) f

-- they have no fault where each row is sound
pub all_sound :
    (s : List ℕ) (m n : ℕ) → ((i : ℕ) → i < n → RowSound s m (row_at s m i))
    → first_fault (rows_faults s m n) ≡ accepted tt
unfolding rows_faults
all_sound s m n h = faults_all _ n (λ i l. sound_row (h i l))

-- no fault but 19, where no row has another
pub rows_either :
    (s : List ℕ) (m n : ℕ)
    → ((i : ℕ) → i < n → (first_fault (row_faults s m (row_at s m i)) ≡ accepted tt)
    ⊎ (first_fault (row_faults s m (row_at s m i)) ≡ refused 19))
    → (first_fault (rows_faults s m n) ≡ accepted tt) ⊎ (first_fault (rows_faults s m n) ≡ refused 19)
unfolding rows_faults
rows_either s m n h = faults_either _ n h

-- and each row is sound where they have none
pub sound_at :
    (s : List ℕ) (m n i p : ℕ) → first_fault (rows_faults s m n) ≡ accepted tt → i < n → p ≡ row_at s m i
    → RowSound s m p
unfolding rows_faults
sound_at s m n i p e l g = row_sound s m p (ap (λ q. first_fault (row_faults s m q)) g ∙ faults_each _ n i e l)

-- and they end within the sheet
pub rows_within :
    (s : List ℕ) (m n : ℕ) → row_at s m 0 ≤ length s → first_fault (rows_faults s m n) ≡ accepted tt
    → row_at s m n ≤ length s
unfolding row_at
rows_within s m zero h e = h
rows_within s m (suc n) h e = (sound_at s m (suc n) n (row_at s m n) e (omega arith) refl).bids_in

pub first_row : (s : List ℕ) (m : ℕ) → row_at s m 0 ≡ 4 + 6 * m
unfolding row_at
first_row s m = refl
