-- Reading over calls, proved: a call on tables of the right sizes finds the sheet's own faults.
use Prim.Native.Nat.{ℕ}
use mathlib.Core.List.{List}
use mathlib.Core.Path.{◌≡◌, refl, sym, ap, ap₂, ◌∙◌}
use lib.ListN.{replicate, length-replicate}
use Rattle.model.specs.Limits.{max_guests, max_stations, max_bids}
use Rattle.model.specs.Numbers.{answer_of_reading}
use Rattle.model.specs.Verdicts.{accepted, first_fault}
use Rattle.model.specs.sheet.Content.{guests, stations, tables_of, sheet_faults, read_sheet}
use Rattle.model.specs.sheet.Lent.{LentTables, lent_tables, reading_faults, table_lengths, filled}
use Rattle.model.specs.clauses.EntryPoints.{reading, Reads}
use Rattle.model.specs.claims.Sheets.{RightSizes, ReadAs, StatedIsRead, ReadIsStated, ReadCallExists}
use Rattle.model.specs.declared.answers.Counts.{Counts}
use Rattle.model.specs.declared.refusal.Refusal.{Refusal}
use Rattle.std.specs.Prelude.{Result, Ok}
use Rattle.model.proofs.Counting.{length_list}
use Rattle.model.proofs.Verdicts.{fault_later, no_fault, giving_accepted, gave_accepted, updated_accepted}
use Rattle.model.proofs.Promises.{keeps_accepted, was_accepted}
use Rattle.model.proofs.clauses.Reads.{lent_good}
use Rattle.model.proofs.sheet.Bytes.{stated_is_bytes}
use Rattle.model.proofs.sheet.Truth.{reads_exactly_what_is_stated, states_read}

module _ (s : List ℕ) (entry exit : LentTables) (answer : Result Counts Refusal) (c : Reads s entry answer exit)
    (v : first_fault (reading_faults entry s) ≡ accepted tt) where
  read_as : ReadAs (tables_of s) entry answer exit
  unfolding reading tables_of
  read_as = record {
    answered = c.answered ∙ giving_accepted _ v
        ∙ ap accepted (ap₂ {C = ℕ × ℕ} (λ n m. (n, m)) (sym (length_list _ _)) (sym (length_list _ _)));
    left = c.left ∙ updated_accepted _ _ v;
  }

pub sheet_verdict :
    (s : List ℕ) (l : LentTables) → RightSizes l → first_fault (reading_faults l s) ≡ first_fault (sheet_faults s)
unfolding reading_faults table_lengths
sheet_verdict s l z =
    fault_later 10 (sheet_faults s)
    (lent_good _ _ _ _ _ z.amounts_long z.tickets_long z.asks_long z.bays_long z.bids_long)

pub stated_is_read : StatedIsRead
unfolding read_sheet
stated_is_read s t entry exit answer z c w =
    let (v, same) = gave_accepted (first_fault (sheet_faults s)) (tables_of s) t (states_read s t w) in
    rw (← same) (read_as s entry exit answer c (sheet_verdict s entry z ∙ v))

pub read_is_stated : ReadIsStated
unfolding reading read_sheet reading_faults table_lengths
read_is_stated s entry exit answer n m y c e =
    let v = (was_accepted c e).0 in (
      tables_of s,
      (reads_exactly_what_is_stated s (tables_of s) y).0 (giving_accepted _ (no_fault _ _ _ v).1),
      read_as s entry exit answer c v,
    )

-- ---- there are such calls

pub zeros : LentTables
zeros = lent_tables (replicate max_guests 0) (replicate max_guests 0) (replicate max_stations 0)
    (replicate max_stations 0)
    (replicate max_bids 0)

pub zeros_sized : RightSizes zeros
unfolding zeros
zeros_sized = record {
  amounts_long = length-replicate {A = ℕ} max_guests 0;
  tickets_long = length-replicate {A = ℕ} max_guests 0;
  asks_long = length-replicate {A = ℕ} max_stations 0;
  bays_long = length-replicate {A = ℕ} max_stations 0;
  bids_long = length-replicate {A = ℕ} max_bids 0;
}

pub read_call_exists : ReadCallExists
unfolding reading read_sheet answer_of_reading
read_call_exists s t w =
    let v = sheet_verdict s zeros zeros_sized
    ∙ (gave_accepted (first_fault (sheet_faults s)) (tables_of s) t (states_read s t w)).0 in
    let called : Reads s zeros (Ok (record { guests = guests s; stations = stations s })) (filled (tables_of s) zeros)
    = keeps_accepted v refl refl in
    record {
      bytes = stated_is_bytes s t w;
      entry = zeros;
      right_sizes = zeros_sized;
      answer = Ok (record { guests = guests s; stations = stations s });
      exit = filled (tables_of s) zeros;
      call = called;
      read = stated_is_read s t _ _ _ zeros_sized called w;
    }
