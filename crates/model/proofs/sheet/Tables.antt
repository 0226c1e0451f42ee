-- The tables, as `read` makes them.
use Prim.Native.Nat.{ℕ, ◌*◌, ◌≤◌}
use mathlib.Core.Bool.{Bool, true, false, not}
use mathlib.Core.List.{List}
use mathlib.Core.Path.{◌≡◌, refl, sym, ◌∙◌}
use native.Mathlib.Omega.{arith}
use lib.ListN.{length}
use lib.Seq.{paste}
use Rattle.model.specs.Limits.{max_guests, max_stations, max_bids}
use Rattle.model.specs.Counting.{◌=?◌, ◌or◌, list, joined}
use Rattle.model.specs.Verdicts.{◌gives◌, accepted, refused, first_fault}
use Rattle.model.proofs.market.Acceptance.{product_fits}
use Rattle.model.proofs.Tests.{eq_yes, or_no}
use Rattle.model.proofs.Promises.{keeps_accepted, keeps_refused}
use Rattle.model.proofs.Verdicts.{fault_here, fault_later}
use Rattle.model.specs.Numbers.{number, answer_of_reading}
use Rattle.model.specs.declared.refusal.Refusal.{Refusal}
use Rattle.model.specs.declared.refusal.Refusal.TheVariants.{LentLengths}
use Rattle.model.specs.sheet.Rows.{ask_of, bays_of, amount_of, ticket_of, bid_of, rows_faults}
use Rattle.model.specs.sheet.Content.{guests, stations, tables_of, sheet_faults}
use Rattle.model.specs.declared.answers.Counts.{Counts}
use Rattle.std.specs.Prelude.{Result, Ok, Err}
use Rattle.model.proofs.sheet.Faults.{Sound}
use Rattle.model.proofs.sheet.Answers.{Checked, told_refused}
use Rattle.model.specs.sheet.Lent.{LentTables, lent_tables, table_lengths, reading_faults, filled}
use Rattle.model.specs.clauses.EntryPoints.{reading, Reads}

-- xs over the first places of l
abbrev pub first_places : (xs l : List ℕ) → List ℕ
first_places xs l = paste l 0 xs (length xs)

-- room for the table
pub room_for : (n m k : ℕ) → n ≤ max_guests → m ≤ max_stations → k ≡ max_bids → n * m ≤ k
room_for n m k h g e = omega (arith, product_fits n m h g)

pub lent_lengths :
    (a k b c d : ℕ) → table_lengths a k b c d ≡ (false gives 10)
    → (a ≡ max_guests) × (k ≡ max_guests) × (b ≡ max_stations) × (c ≡ max_stations) × (d ≡ max_bids)
unfolding table_lengths
lent_lengths a k b c d e =
    let t : (not (a =? max_guests) or not (k =? max_guests) or not (b =? max_stations) or not (c =? max_stations)
    or not (d =? max_bids)) ≡ false = cc in
    let (t1, t2) = or_no _ _ t in let (t3, t4) = or_no _ _ t1 in
    let (t5, t6) = or_no _ _ t3 in let (t7, t8) = or_no _ _ t5 in (
      eq_yes _ _ (is _ t7),
      eq_yes _ _ (is _ t8),
      eq_yes _ _ (is _ t6),
      eq_yes _ _ (is _ t4),
      eq_yes _ _ (is _ t2),
    )
  where
    is : (b : Bool) → not b ≡ false → b ≡ true
    is true e = refl
    is false e = sym e

pub rows_good :
    {s : List ℕ} {n m : ℕ} → Sound s → n ≡ guests s → m ≡ stations s → first_fault (rows_faults s m n) ≡ accepted tt
rows_good t e f = rw (e, f) t.rows_in

module _ (s a k b c d : List ℕ) where
  abbrev entry : LentTables
  entry = lent_tables a k b c d

  refused_by : (x : Refusal) → first_fault (reading_faults entry s) ≡ refused (number x)
      → Reads s entry (Err x) entry
  unfolding answer_of_reading reading
  refused_by x e = keeps_refused e

  pub refused_lent :
      table_lengths (length a) (length k) (length b) (length c) (length d) ≡ (true gives 10)
      → Reads s entry (Err LentLengths) entry
  unfolding reading_faults
  refused_lent e = refused_by LentLengths (rw e (fault_here _ refl))

  module _ (l : table_lengths (length a) (length k) (length b) (length c) (length d) ≡ (false gives 10)) where
    as_sheet : first_fault (reading_faults entry s) ≡ first_fault (sheet_faults s)
    unfolding reading_faults
    as_sheet = rw l (fault_later _ _ refl)

    pub refused_sheet :
        (x : Refusal) (r : Result Counts Refusal) → Checked s r → r ≡ Err x → Reads s entry (Err x) entry
    refused_sheet x r e f = refused_by x (as_sheet ∙ told_refused _ _ x r e f)

    pub read_all :
        (n m : ℕ) (a' k' b' c' d' : List ℕ) → first_fault (sheet_faults s) ≡ accepted tt → n ≡ guests s → m ≡ stations s
        → a' ≡ first_places (list n (amount_of s m)) a → k' ≡ first_places (list n (ticket_of s m)) k
        → b' ≡ first_places (list m (ask_of s)) b → c' ≡ first_places (list m (bays_of s)) c
        → d' ≡ first_places (joined n (λ i. list m (bid_of s m i))) d
        → Reads s entry (Ok (record { guests = n; stations = m })) (lent_tables a' k' b' c' d')
    unfolding answer_of_reading reading filled tables_of
    read_all n m a' k' b' c' d' e f g i ti j q l =
        keeps_accepted (as_sheet ∙ e) (rw (f, g) refl) (rw (i, ti, j, q, l, f, g) refl)
