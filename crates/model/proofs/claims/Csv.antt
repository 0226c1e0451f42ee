-- Request 10 over calls, proved: a call on tables of the right sizes finds the text's own faults.
use Prim.Native.Nat.{ℕ}
use mathlib.Core.List.{List, [], ◌++◌}
use mathlib.Core.Path.{◌≡◌, refl, sym, ap, ap₂, subst, ◌∙◌}
use lib.ListN.{length}
use Rattle.model.specs.Verdicts.{◌gives◌, accepted, refused, first_fault, number_of}
use Rattle.model.specs.market.Market.{Tables}
use Rattle.model.specs.sheet.Lent.{LentTables, table_lengths, filled}
use Rattle.model.specs.csv.Faults.{csv_faults, reading_csv_faults}
use Rattle.model.specs.csv.Content.{csv_tables, read_csv}
use Rattle.model.specs.csv.Text.{StatesCsv, text_of}
use Rattle.model.specs.clauses.EntryPoints.{reading_csv}
use Rattle.model.specs.claims.Sheets.{RightSizes}
use Rattle.model.specs.claims.Writings.{market_in}
use Rattle.model.specs.claims.Csv.{CallsCsv, CsvReadIffStated, CsvReadAs, CsvStatedIsRead, CsvLaidOutIsRead}
use Rattle.model.specs.claims.Csv.{CsvReadIsStated, CsvFirstFaultAnswered, CsvRefusedLeaves, CsvReadCallExists}
use Rattle.model.specs.claims.Csv.{CsvRefusedCallExists}
use Rattle.model.proofs.Counting.{length_list}
use Rattle.model.proofs.Verdicts.{fault_later, no_fault, giving_accepted, gave_accepted, updated_accepted}
use Rattle.model.proofs.Verdicts.{updated_refused, number_accepted}
use Rattle.model.proofs.cases.Computing.{csv_computes}
use Rattle.model.proofs.claims.Promises.{zero_is_accepted, faults_numbered_from_one, refused_export_leaves}
use Rattle.model.proofs.claims.Promises.{export_can_keep}
use Rattle.model.proofs.claims.Sheets.{zeros, zeros_sized}
use Rattle.model.proofs.claims.Writings.{market_filled}
use Rattle.model.proofs.clauses.Reads.{lent_good}
use Rattle.model.proofs.sheet.Tables.{lent_lengths}
use Rattle.model.proofs.csv.LaidOut.{laid_out_states}
use Rattle.model.proofs.csv.Order.{first_fault_decides}
use Rattle.model.proofs.csv.Truth.{reads_exactly_what_text_states, read_fits}

-- ---- the verdict of a call

text_verdict :
    (text : List ℕ) (l : LentTables) → RightSizes l
    → first_fault (reading_csv_faults l text) ≡ first_fault (csv_faults text)
unfolding reading_csv_faults table_lengths
text_verdict text l z =
    fault_later 10 (csv_faults text)
    (lent_good _ _ _ _ _ z.amounts_long z.tickets_long z.asks_long z.bays_long z.bids_long)

-- no fault is neither in the tables nor in the text
both_good :
    (text : List ℕ) (l : LentTables) → first_fault (reading_csv_faults l text) ≡ accepted tt
    → RightSizes l × (first_fault (csv_faults text) ≡ accepted tt)
unfolding reading_csv_faults table_lengths
both_good text l e =
    let (row, rest) = no_fault _ _ _ e in
    let (a, k, b, c, d) = lent_lengths (length l.amounts) (length l.tickets) (length l.asks) (length l.bays)
    (length l.bids) (ap (λ x. x gives 10) row) in
    (record { amounts_long = a; tickets_long = k; asks_long = b; bays_long = c; bids_long = d }, rest)

module _ (text : List ℕ) (entry exit : LentTables) (out out' : ℕ × ℕ) (number : ℕ)
    (c : CallsCsv text entry out number exit out') (t : Tables) (s : StatesCsv text t) (z : RightSizes entry) where
  table : csv_tables text ≡ t
  unfolding read_csv
  table = (gave_accepted _ _ t ((reads_exactly_what_text_states text t).1 s)).1

  no_fault_in : first_fault (reading_csv_faults entry text) ≡ accepted tt
  unfolding read_csv
  no_fault_in =
      text_verdict text entry z ∙ (gave_accepted _ (csv_tables text) t ((reads_exactly_what_text_states text t).1 s)).0

  counts : out' ≡ (length t.amounts, length t.asks)
  unfolding reading_csv csv_tables
  counts = c.out_is ∙ updated_accepted _ _ no_fault_in ∙ ap₂ {C = ℕ × ℕ} (λ n m. (n, m))
      (sym (length_list _ _) ∙ ap (λ u. length u.amounts) table)
      (sym (length_list _ _) ∙ ap (λ u. length u.asks) table)

  read_as : CsvReadAs t entry exit number out'
  unfolding reading_csv
  read_as =
      let left = c.left ∙ updated_accepted _ _ no_fault_in ∙ ap (λ u. filled u entry) table in
      let h = s.shape in
      record {
        answered = c.number_is ∙ number_accepted no_fault_in;
        counts_are = counts;
        left = left;
        shown = ap₂ (λ l p. market_in l p.0 p.1) left counts
            ∙ market_filled t entry _ _ refl refl h.tickets_length h.bays_length h.bids_length h.width_is;
      }

pub csv_stated_is_read : CsvStatedIsRead
csv_stated_is_read text t entry exit out out' number s z c = read_as text entry exit out out' number c t s z

pub csv_laid_out_is_read : CsvLaidOutIsRead
csv_laid_out_is_read t entry exit out out' number g z c =
    read_as (text_of t) entry exit out out' number c t (laid_out_states t g) z

-- ---- a call that answers 0

zero_good :
    (text : List ℕ) (entry exit : LentTables) (out out' : ℕ × ℕ) → CallsCsv text entry out 0 exit out'
    → RightSizes entry × StatesCsv text (csv_tables text)
unfolding reading_csv read_csv
zero_good text entry exit out out' c =
    let v = (zero_is_accepted _ _ (reading_csv text) entry exit out out'
    (faults_numbered_from_one.of_reading_csv text entry) c).0 in
    let (z, e) = both_good text entry v in
    (z, (reads_exactly_what_text_states text (csv_tables text)).0 (giving_accepted _ e))

pub csv_read_is_stated : CsvReadIsStated
csv_read_is_stated text entry exit out out' c =
    let (z, s) = zero_good text entry exit out out' c in
    let shown = (read_as text entry exit out out' 0 c (csv_tables text) s z).shown in
    let states = subst (λ u. StatesCsv text u) (sym shown) s in
    (states, read_fits text _ ((reads_exactly_what_text_states text _).1 states))

pub csv_read_iff_stated : CsvReadIffStated
csv_read_iff_stated text entry exit out out' number c = (
  (λ e.
      let (z, s) = zero_good text entry exit out out' (subst (λ k. CallsCsv text entry out k exit out') e c) in
      (z, (csv_tables text, s))),
  (λ w. (read_as text entry exit out out' number c w.1.0 w.1.1 w.0).answered),
)

pub csv_first_fault_answered : CsvFirstFaultAnswered
unfolding reading_csv number_of
csv_first_fault_answered bytes rest other entry exit out out' number k z e c =
    c.number_is ∙ ap number_of (text_verdict (bytes ++ other) entry z ∙ first_fault_decides bytes rest other k e)

pub csv_refused_leaves : CsvRefusedLeaves
csv_refused_leaves text entry exit out out' k c = refused_export_leaves _ _ (reading_csv text) entry exit out out' k c

-- ---- there are such calls

pub csv_read_call_exists : CsvReadCallExists
csv_read_call_exists t g =
    let (number, exit, out', called) = export_can_keep _ _ (reading_csv (text_of t)) zeros (0, 0) in
    let read = csv_laid_out_is_read t zeros exit (0, 0) out' number g zeros_sized called in
    record {
      entry = zeros;
      right_sizes = zeros_sized;
      exit = exit;
      out = (0, 0);
      out' = out';
      call = subst (λ k. CallsCsv (text_of t) zeros (0, 0) k exit out') read.answered called;
    }

empty_refused : first_fault (csv_faults []) ≡ refused 22
unfolding csv_computes
empty_refused = refl

pub csv_refused_call_exists : CsvRefusedCallExists
unfolding reading_csv number_of
csv_refused_call_exists entry out z =
    let v = text_verdict [] entry z ∙ empty_refused in
    record {
      number_is = sym (ap number_of v);
      left = sym (updated_refused _ _ 22 v);
      out_is = sym (updated_refused _ _ 22 v);
    }
