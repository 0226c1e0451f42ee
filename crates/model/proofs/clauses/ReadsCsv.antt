-- What a caller of `read_csv` learns from its answer.
use Prim.Native.Nat.{ℕ, ◌≤◌}
use mathlib.Core.List.{List}
use mathlib.Core.Path.{◌≡◌, sym, ap, ◌∙◌}
use lib.ListN.{length}
use Rattle.model.specs.Limits.{max_guests, max_stations, max_bids}
use Rattle.model.specs.Numbers.{number, answer_of_reading}
use Rattle.model.specs.Verdicts.{refused}
use Rattle.model.specs.sheet.Lent.{LentTables, table_lengths}
use Rattle.model.specs.csv.Content.{csv_tables, read_csv}
use Rattle.model.specs.csv.Faults.{csv_faults, reading_csv_faults}
use Rattle.model.specs.clauses.EntryPoints.{reading_csv, ReadsCsv}
use Rattle.model.specs.declared.refusal.Refusal.{Refusal}
use Rattle.model.specs.declared.answers.Counts.{Counts}
use Rattle.std.specs.Prelude.{Result, Ok, Err, IfOk}
use Rattle.model.proofs.Counting.{length_list}
use Rattle.model.proofs.Promises.{was_accepted, was_refused}
use Rattle.model.proofs.Verdicts.{fault_later, no_fault, giving_accepted, giving_refused}
use Rattle.model.proofs.clauses.Reads.{ReadTables, lent_good, filled_holds, within_counts}
use Rattle.model.proofs.csv.Truth.{read_fits}

module _ (text : List ℕ) (entry exit : LentTables) (r : Result Counts Refusal) (k : ReadsCsv text entry r exit) where
  pub read_csv_tables : (c : Counts) → r ≡ Ok c → ReadTables (read_csv text) c.guests c.stations exit
  unfolding answer_of_reading reading_csv reading_csv_faults table_lengths read_csv csv_tables
  read_csv_tables c e =
      let (v, p, full) = was_accepted k (ap answer_of_reading e) in
      let reads = giving_accepted _ (no_fault _ _ _ v).1 in
      filled_holds (csv_tables text) c.guests c.stations entry reads (read_fits text (csv_tables text) reads).shape
      (length_list _ _ ∙ ap (λ p. p.0) p) (length_list _ _ ∙ ap (λ p. p.1) p) full

  -- a refused text, where the tables had the right lengths
  pub read_csv_fault :
      (x : Refusal) → length entry.amounts ≡ max_guests → length entry.tickets ≡ max_guests
      → length entry.asks ≡ max_stations → length entry.bays ≡ max_stations → length entry.bids ≡ max_bids
      → r ≡ Err x
      → read_csv text ≡ refused (number x)
  unfolding answer_of_reading reading_csv reading_csv_faults read_csv table_lengths
  read_csv_fault x la lk lb lc ld e =
      let l = lent_good _ _ _ _ _ la lk lb lc ld in
      let w = (was_refused k (ap answer_of_reading e)).0 in
      giving_refused _ _ (sym (fault_later 10 (csv_faults text) l) ∙ w)

  pub read_csv_counts : IfOk r (λ c. (c.guests ≤ max_guests) × (c.stations ≤ max_stations))
  read_csv_counts = within_counts r (λ c e. read_csv_tables c e)
