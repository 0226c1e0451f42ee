-- What follows from every promise, proved.
use Prim.Native.Nat.{ℕ, zero, suc}
use mathlib.Core.Bool.{true, false}
use mathlib.Core.List.{List, [], ◌∷◌, ◌++◌}
use mathlib.Core.Path.{◌≡◌, refl, sym, ◌∙◌}
use native.Mathlib.Omega.{arith}
use Rattle.model.specs.Counting.{◌≤?◌, ◌and◌, joined}
use Rattle.model.specs.Verdicts.{Row, ◌gives◌, Verdict, accepted, refused, first_fault, updated, number_of}
use Rattle.model.specs.claims.Promises.{RefusedLeaves, PromiseDetermines, ExportDetermines, PromiseCanBeKept}
use Rattle.model.specs.claims.Promises.{RefusedExportLeaves, ExportCanKeep, numbered_from_one, ZeroIsAccepted}
use Rattle.model.specs.claims.Promises.{FaultsNumberedFromOne}
use Rattle.model.specs.clauses.EntryPoints.{clearing, reading, reading_csv, writing, placing, explaining}
use Rattle.model.specs.clauses.EntryPoints.{clearing_fully, marking, joining, trying, listing, gaining, entering}
use Rattle.model.specs.market.Faults.{unknown_rule, counts, lengths, list_lengths, values, market_faults}
use Rattle.model.specs.market.Faults.{table_faults, clearing_faults, explained_lengths, explained_faults}
use Rattle.model.specs.market.Faults.{explaining_faults}
use Rattle.model.specs.market.Gates.{joined_lengths, pair_faults, joining_faults}
use Rattle.model.specs.market.Changes.{try_faults, trying_faults}
use Rattle.model.specs.market.Menus.{list_faults, listing_faults, gain_faults, gaining_faults}
use Rattle.model.specs.market.Marking.{full_lengths, full_table_faults, marking_faults}
use Rattle.model.specs.sheet.Content.{sheet_faults}
use Rattle.model.specs.sheet.Lent.{table_lengths, reading_faults}
use Rattle.model.specs.sheet.Rows.{bid_faults, bids_faults, row_faults, rows_faults}
use Rattle.model.specs.sheet.Shortest.{writing_faults}
use Rattle.model.specs.csv.Faults.{byte_faults, end_faults, faults_from, csv_faults, reading_csv_faults}
use Rattle.model.specs.places.Faults.{place_lengths, place_values, placing_faults}
use Rattle.model.specs.book.PlainBook.{book_size, no_desk, out_of_turn, posting_faults}
use Rattle.model.proofs.Tests.{both, first, second, le_yes}
use Rattle.model.proofs.Promises.{was_refused}
use Rattle.model.proofs.Verdicts.{updated_accepted}

pub refused_leaves : RefusedLeaves
refused_leaves A L p entry exit answer k e c = (was_refused c e).1

-- what a refusal leaves
kept : {B : Type 0} (v : Verdict) (new old : B) (k : ℕ) → suc k ≡ number_of v → updated v new old ≡ old
unfolding number_of updated
kept (accepted _) new old k e = absurd (omega (arith, e))
kept (refused j) new old k e = refl

pub refused_export_leaves : RefusedExportLeaves
refused_export_leaves A L p entry exit out out' k c =
    (c.left ∙ kept _ _ _ k c.number_is, c.out_is ∙ kept _ _ _ k c.number_is)

pub promise_determines : PromiseDetermines
promise_determines A L p entry answer answer' exit exit' c d =
    (c.answered ∙ sym d.answered, c.left ∙ sym d.left)

pub export_determines : ExportDetermines
export_determines A L p entry out number number' exit exit' out' out'' c d =
    (c.number_is ∙ sym d.number_is, c.left ∙ sym d.left, c.out_is ∙ sym d.out_is)

pub promise_can_be_kept : PromiseCanBeKept
promise_can_be_kept A L p entry = (_, _, record { answered = refl; left = refl })

pub export_can_keep : ExportCanKeep
export_can_keep A L p entry out = (_, _, _, record { number_is = refl; left = refl; out_is = refl })

-- ---- 0 means accepted

zero_no_fault :
    (rows : List Row) → numbered_from_one rows ≡ true → number_of (first_fault rows) ≡ 0
    → first_fault rows ≡ accepted tt
unfolding numbered_from_one first_fault number_of
zero_no_fault [] h e = refl
zero_no_fault ((true gives k) ∷ rows) h e = absurd (omega (arith, le_yes 1 k (first (1 ≤? k) _ h)))
zero_no_fault ((false gives k) ∷ rows) h e = zero_no_fault rows (second (1 ≤? k) _ h) e

pub zero_is_accepted : ZeroIsAccepted
zero_is_accepted A L p entry exit out out' h c =
    let v = zero_no_fault (p entry).faults h (sym c.number_is) in
    (v, c.left ∙ updated_accepted _ _ v, c.out_is ∙ updated_accepted _ _ v)

-- two tables in turn, and so many
numbered_both :
    (xs ys : List Row) → numbered_from_one xs ≡ true → numbered_from_one ys ≡ true → numbered_from_one (xs ++ ys) ≡ true
unfolding numbered_from_one
numbered_both [] ys h k = k
numbered_both ((b gives r) ∷ xs) ys h k =
    both (first (1 ≤? r) _ h) (numbered_both xs ys (second (1 ≤? r) _ h) k)

numbered_all :
    (n : ℕ) (f : ℕ → List Row) → ((i : ℕ) → numbered_from_one (f i) ≡ true) → numbered_from_one (joined n f) ≡ true
unfolding joined numbered_from_one
numbered_all zero f h = refl
numbered_all (suc n) f h = numbered_both (joined n f) (f n) (numbered_all n f h) (h n)

bids_numbered : (s : List ℕ) (q k : ℕ) → numbered_from_one (bids_faults s q k) ≡ true
unfolding numbered_from_one ◌≤?◌ ◌and◌ bids_faults bid_faults
bids_numbered s q k = numbered_all k _ (λ i. refl)

rows_numbered : (s : List ℕ) (m n : ℕ) → numbered_from_one (rows_faults s m n) ≡ true
unfolding numbered_from_one ◌≤?◌ ◌and◌ rows_faults row_faults
rows_numbered s m n = numbered_all n _ (λ i. bids_numbered s _ _)

places_numbered : (m : ℕ) (past rest : List ℕ) → numbered_from_one (faults_from m past rest) ≡ true
unfolding numbered_from_one ◌≤?◌ ◌and◌ faults_from byte_faults end_faults
places_numbered m past [] = refl
places_numbered m past (b ∷ rest) = places_numbered m (b ∷ past) rest

pub faults_numbered_from_one : FaultsNumberedFromOne
unfolding numbered_from_one ◌≤?◌ ◌and◌ clearing clearing_fully marking reading reading_csv writing placing explaining
    joining trying entering marking_faults full_table_faults full_lengths clearing_faults table_faults unknown_rule
    counts lengths list_lengths values market_faults reading_faults table_lengths sheet_faults reading_csv_faults
    csv_faults writing_faults placing_faults place_lengths place_values explaining_faults explained_faults
    explained_lengths joining_faults pair_faults joined_lengths trying_faults try_faults listing listing_faults
    list_faults gaining gaining_faults gain_faults posting_faults book_size no_desk out_of_turn
faults_numbered_from_one = record {
  of_clearing = λ made rule t entry. refl;
  of_clearing_fully = λ rule t entry. refl;
  of_marking = λ rule t s. refl;
  of_reading = λ s entry. numbered_both (rows_faults s _ _) _ (rows_numbered s _ _) refl;
  of_reading_csv = λ text entry. places_numbered _ [] text;
  of_writing = λ t entry. refl;
  of_placing = λ p entry. refl;
  of_explaining = λ rule t entry. refl;
  of_joining = λ t u entry. refl;
  of_trying = λ rule t guest worths row entry. refl;
  of_listing = λ rule t guest entry. refl;
  of_gaining = λ rule t guest worths rows entry. refl;
  of_entering = λ p entry. refl;
}
