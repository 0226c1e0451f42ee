-- The faults of a sheet, as the checking pass meets them.
use Prim.Native.Nat.{ℕ, ◌+◌, ◌*◌, ◌≤◌, ◌<◌}
use mathlib.Core.Bool.{Bool, true, false}
use mathlib.Core.List.{List, [], ◌∷◌, ◌++◌}
use mathlib.Core.Path.{◌≡◌, refl, ap, ◌∙◌}
use native.Mathlib.Omega.{arith}
use lib.ListN.{length}
use Rattle.model.specs.Limits.{max_guests, max_stations}
use Rattle.model.specs.Counting.{◌<?◌, ◌=?◌, ◌or◌}
use Rattle.model.specs.market.Faults.{counts}
use Rattle.model.specs.Verdicts.{◌gives◌, accepted, refused, first_fault}
use Rattle.model.proofs.market.Acceptance.{counted}
use Rattle.model.proofs.Tests.{lt_no, is_lt, not_lt, not_eq, neither}
use Rattle.model.proofs.Verdicts.{fault_here, fault_later, fault_none, no_fault, fault_first, fault_second}
use Rattle.model.proofs.Verdicts.{no_faults}
use Rattle.model.specs.sheet.Rows.{row_at, rows_faults}
use Rattle.model.proofs.sheet.Rows.{first_row}
use Rattle.model.specs.sheet.Content.{guests, stations, sheet_faults}

pub sheet_short : (s : List ℕ) → length s < 4 → first_fault (sheet_faults s) ≡ refused 1
unfolding sheet_faults
sheet_short s h = fault_here _ (is_lt _ _ h)

-- the header's two counts are taken
pub record Headed (s : List ℕ) (n m : ℕ) : Type 0 where
  pub within : 4 ≤ length s
  pub n_is : n ≡ guests s
  pub m_is : m ≡ stations s

-- the row of the counts, by the test
pub counts_by :
    (n m : ℕ) (b : Bool) → b ≡ (max_guests <? n or m =? 0 or max_stations <? m) → counts n m ≡ (b gives 2)
unfolding counts
counts_by n m b e = rw e refl

-- what the test of the counts leaves
pub counts_within :
    (n m : ℕ) → counts n m ≡ (false gives 2) → (n ≤ max_guests) × (1 ≤ m) × (m ≤ max_stations)
unfolding counts
counts_within n m e = counted n m (cc)

pub counts_good : (n m : ℕ) → n ≤ max_guests → 1 ≤ m → m ≤ max_stations → counts n m ≡ (false gives 2)
unfolding counts
counts_good n m h g l =
    ap (λ b. b gives 2) (neither (neither (not_lt _ _ h) (not_eq m 0 (λ e. omega arith))) (not_lt _ _ l))

module _ {s : List ℕ} {n m : ℕ} (t : Headed s n m) where
  after_header : (b : Bool) → counts n m ≡ (b gives 2)
      → first_fault (sheet_faults s)
      ≡ first_fault ((b gives 2) ∷ (length s <? row_at s m 0 gives 1)
      ∷ (rows_faults s m n ++ ((row_at s m n <? length s gives 4) ∷ [])))
  unfolding sheet_faults
  after_header b e = fault_later _ _ (not_lt _ _ t.within) ∙ rw (← t.n_is, ← t.m_is, e) refl

  pub bad_counts : counts n m ≡ (true gives 2) → first_fault (sheet_faults s) ≡ refused 2
  bad_counts e = after_header true e ∙ fault_here _ refl

  module _ (e : counts n m ≡ (false gives 2)) where
    pub stations_end : length s < 4 + 6 * m → first_fault (sheet_faults s) ≡ refused 1
    stations_end h =
        after_header false e ∙ fault_later _ _ refl ∙ fault_here _ (is_lt _ _ (omega (arith, first_row s m)))

    module _ (h : 4 + 6 * m ≤ length s) where
      rows_left :
          first_fault (sheet_faults s)
          ≡ first_fault (rows_faults s m n ++ ((row_at s m n <? length s gives 4) ∷ []))
      rows_left =
          after_header false e ∙ fault_later _ _ refl ∙ fault_later _ _ (not_lt _ _ (omega (arith, first_row s m)))

      pub bad_rows : {r : ℕ} → first_fault (rows_faults s m n) ≡ refused r → first_fault (sheet_faults s) ≡ refused r
      bad_rows g = rows_left ∙ fault_first _ _ g

      module _ (g : first_fault (rows_faults s m n) ≡ accepted tt) where
        pub trailing : row_at s m n < length s → first_fault (sheet_faults s) ≡ refused 4
        trailing l = rows_left ∙ fault_second _ _ g ∙ fault_here _ (is_lt _ _ l)

        pub whole : length s ≤ row_at s m n → first_fault (sheet_faults s) ≡ accepted tt
        whole l = rows_left ∙ fault_second _ _ g ∙ fault_later _ _ (not_lt _ _ l) ∙ fault_none

-- a sheet with no fault
pub record Sound (s : List ℕ) : Type 0 where
  pub few : guests s ≤ max_guests
  pub some : 1 ≤ stations s
  pub narrow : stations s ≤ max_stations
  pub stations_in : 4 + 6 * stations s ≤ length s
  pub rows_in : first_fault (rows_faults s (stations s) (guests s)) ≡ accepted tt
  pub end : length s ≤ row_at s (stations s) (guests s)

pub sheet_sound : (s : List ℕ) → first_fault (sheet_faults s) ≡ accepted tt → Sound s
unfolding sheet_faults counts
sheet_sound s e =
    let (a, e1) = no_fault _ _ _ e in let (b, e2) = no_fault _ _ _ e1 in let (c, e3) = no_fault _ _ _ e2 in
    let (r, e4) = no_faults _ _ e3 in let (d, e5) = no_fault _ _ _ e4 in
    let k = counted (guests s) (stations s) b in
    record {
      few = k.0;
      some = k.1;
      narrow = k.2;
      stations_in = rw (first_row s (stations s)) at (lt_no _ _ c);
      rows_in = r;
      end = lt_no _ _ d;
    }
