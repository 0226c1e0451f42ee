-- A sheet with no fault, and lent tables that have room for its market.
use Prim.Native.Nat.{ℕ, ◌*◌, ◌+◌, ◌≤◌}
use mathlib.Core.Bool.{false}
use mathlib.Core.List.{List, [], ◌∷◌, ◌++◌}
use mathlib.Core.Path.{◌≡◌, refl, sym, ap, ap₂}
use native.Mathlib.Nat.{zero-add}
use native.Mathlib.Omega.{arith}
use lib.ListN.{length, drop, take, length-take}
use lib.Seq.{take-length}
use Rattle.std.specs.Prelude.{Ok, Err}
use Rattle.model.specs.Limits.{max_stations}
use Rattle.model.specs.Numbers.{answer_of_verdict, answer_of_reading}
use Rattle.model.specs.Verdicts.{◌gives◌, accepted, first_fault}
use Rattle.model.specs.declared.answers.Counts.{Counts}
use Rattle.model.specs.declared.refusal.Refusal.{Refusal}
use Rattle.model.specs.clauses.EntryPoints.{reading, Reads}
use Rattle.model.specs.sheet.Content.{guests, stations, sheet_faults}
use Rattle.model.specs.sheet.Lent.{lent_tables, table_lengths, reading_faults}
use Rattle.model.specs.Counting.{list}
use Rattle.model.specs.sheet.Rows.{ask_of, bays_of, rows_faults}
use Rattle.model.proofs.Promises.{keeps_refused}
use Rattle.model.proofs.Verdicts.{no_fault, fault_first}
use Rattle.model.proofs.market.Acceptance.{product_fits}
use Rattle.model.proofs.sheet.Answers.{Checked, told_read}
use Rattle.model.proofs.sheet.Faults.{sheet_sound}
use Rattle.model.proofs.sheet.Tables.{lent_lengths, rows_good, room_for, first_places}
use Rattle.sheet.specs.Filling.{StationsFilled}
use Rattle.sheet.specs.declared.fields.Cursor.{Cursor}

-- the lent tables are looked at first
module _ (s a k b c d : List ℕ) where
  pub lent_fault :
      (x : Refusal)
      → answer_of_verdict (Err x)
      ≡ first_fault (table_lengths (length a) (length k) (length b) (length c) (length d) ∷ [])
      → Reads s (lent_tables a k b c d) (Err x) (lent_tables a k b c d)
  unfolding answer_of_verdict answer_of_reading reading reading_faults
  lent_fault x e = keeps_refused (fault_first (_ ∷ []) (sheet_faults s) (sym e))

pub lengths_good :
    (a k b c d : ℕ) {u : Unit {0}}
    → answer_of_verdict (Ok u) ≡ first_fault (table_lengths a k b c d ∷ [])
    → table_lengths a k b c d ≡ (false gives 10)
unfolding answer_of_verdict table_lengths
lengths_good a k b c d e = ap (λ t. t gives 10) (no_fault _ _ _ (sym e)).0

-- what is read of s, and the room that there is for it
pub record Readable (s : List ℕ) (n m : ℕ) (a k b c d : List ℕ) : Type 0 where
  pub good : first_fault (sheet_faults s) ≡ accepted tt
  pub n_is : n ≡ guests s
  pub m_is : m ≡ stations s
  pub few : m ≤ max_stations
  pub stations_in : 4 + 6 * m ≤ length s
  pub rows_in : first_fault (rows_faults s m n) ≡ accepted tt
  pub amounts : n ≤ length a
  pub tickets : n ≤ length k
  pub asks : m ≤ length b
  pub bays : m ≤ length c
  pub bids : n * m ≤ length d
  pub small : n * m ≤ 8000

pub readable :
    (s a k b c d : List ℕ) {u : Unit {0}} (n : Counts)
    → answer_of_verdict (Ok u)
    ≡ first_fault (table_lengths (length a) (length k) (length b) (length c) (length d) ∷ [])
    → Checked s (Ok n) → Readable s n.guests n.stations a k b c d
readable s a k b c d n e f =
    let (g, p, q) = told_read (first_fault (sheet_faults s)) (guests s) (stations s) n (Ok n) f refl in
    let t = sheet_sound s g in
    let l = lent_lengths _ _ _ _ _ (lengths_good (length a) (length k) (length b) (length c) (length d) e) in
    record {
      good = g;
      n_is = p;
      m_is = q;
      few = omega (arith, t.narrow, q);
      stations_in = omega (arith, t.stations_in, q);
      rows_in = rows_good t p q;
      amounts = omega (arith, t.few, p, l.0);
      tickets = omega (arith, t.few, p, l.1);
      asks = omega (arith, t.narrow, q, l.2);
      bays = omega (arith, t.narrow, q, l.3);
      bids = room_for _ _ _ (omega (arith, t.few, p)) (omega (arith, t.narrow, q)) l.4;
      small = product_fits _ _ (omega (arith, t.few, p)) (omega (arith, t.narrow, q));
    }

-- the first places of a table
pub front : (k : ℕ) (l : List ℕ) → k ≤ length l → length (take k l) ≡ k
front k l h = omega (arith, length-take k l)

pub over_front :
    {xs ys : List ℕ} (l : List ℕ) (k : ℕ) → xs ≡ ys → length ys ≡ k → xs ++ drop k l ≡ first_places ys l
over_front {ys = ys} l k e f =
    rw (e, ← f) (ap₂ ◌++◌ (sym (take-length ys)) (ap (λ n. drop n l) (sym (zero-add (length ys)))))

pub stations_of :
    {from to : Cursor} {s : List ℕ} {k m : ℕ} {asks bays : List ℕ} → StationsFilled from k asks bays to → k ≡ m
    → from.sheet.now ≡ s → (asks ≡ list m (ask_of s)) × (bays ≡ list m (bays_of s))
stations_of f e g = (rw (e, g) at f.asks_are, rw (e, g) at f.bays_are)
