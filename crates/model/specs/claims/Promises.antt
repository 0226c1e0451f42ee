-- What follows from every promise, whichever call keeps it.
use Rattle.std.specs.Prelude.{ℕ, suc, Bool, true, List, [], ◌∷◌, ◌≡◌, ℤ}
use Rattle.model.specs.Counting.{◌≤?◌, ◌and◌}
use Rattle.model.specs.Promises.{Promise, Keeps, KeepsOut}
use Rattle.model.specs.Verdicts.{Answer, accepted, refused, Row, ◌gives◌, first_fault}
use Rattle.model.specs.clauses.EntryPoints.{clearing, reading, reading_csv, writing, placing, explaining}
use Rattle.model.specs.clauses.EntryPoints.{clearing_fully, marking, joining, trying, listing, gaining, entering}
use Rattle.model.specs.market.Market.{Tables}
use Rattle.model.specs.market.Marking.{FullResults, Submission}
use Rattle.model.specs.market.Menus.{PriceList}
use Rattle.model.specs.market.Outcome.{Results, Outcome}
use Rattle.model.specs.market.Reasons.{Explanation}
use Rattle.model.specs.sheet.Lent.{LentTables}
use Rattle.model.specs.places.Bids.{Places}
use Rattle.model.specs.book.PlainBook.{PlainBook}
use Rattle.model.specs.book.Posting.{Posting}
use Rattle.model.specs.declared.rule.Rule.{Rule}

-- a call that is refused leaves everything that it is lent as it was
abbrev pub RefusedLeaves : Type 1
RefusedLeaves =
    (A L : Type 0) (p : L → Promise A L) (entry exit : L) (answer : Answer A) (k : ℕ) → answer ≡ refused k
    → Keeps p entry answer exit → exit ≡ entry

-- and an exported one, which answers another number than 0, its out parameters too
abbrev pub RefusedExportLeaves : Type 1
RefusedExportLeaves =
    (A L : Type 0) (p : L → Promise A L) (entry exit : L) (out out' : A) (k : ℕ)
    → KeepsOut p entry out (suc k) exit out' → (exit ≡ entry) × (out' ≡ out)

-- a promise leaves nothing open: two calls that keep it, lent the same, answer the same and leave the same
abbrev pub PromiseDetermines : Type 1
PromiseDetermines =
    (A L : Type 0) (p : L → Promise A L) (entry : L) (answer answer' : Answer A) (exit exit' : L)
    → Keeps p entry answer exit → Keeps p entry answer' exit' → (answer ≡ answer') × (exit ≡ exit')

abbrev pub ExportDetermines : Type 1
ExportDetermines =
    (A L : Type 0) (p : L → Promise A L) (entry : L) (out : A) (number number' : ℕ) (exit exit' : L) (out' out'' : A)
    → KeepsOut p entry out number exit out' → KeepsOut p entry out number' exit' out''
    → (number ≡ number') × (exit ≡ exit') × (out' ≡ out'')

-- and every promise can be kept
abbrev pub PromiseCanBeKept : Type 1
PromiseCanBeKept =
    (A L : Type 0) (p : L → Promise A L) (entry : L)
    → (answer : Answer A) × (exit : L) × Keeps p entry answer exit

abbrev pub ExportCanKeep : Type 1
ExportCanKeep =
    (A L : Type 0) (p : L → Promise A L) (entry : L) (out : A)
    → (number : ℕ) × (exit : L) × (out' : A) × KeepsOut p entry out number exit out'

-- ---- 0 means accepted

-- every number of a table of faults is 1 or more
unfoldable pub numbered_from_one : List Row → Bool
numbered_from_one [] = true
numbered_from_one ((b gives k) ∷ rows) = 1 ≤? k and numbered_from_one rows

-- then an export that answers 0 found no fault: it left what is promised, and gave the value
abbrev pub ZeroIsAccepted : Type 1
ZeroIsAccepted =
    (A L : Type 0) (p : L → Promise A L) (entry exit : L) (out out' : A) → numbered_from_one (p entry).faults ≡ true
    → KeepsOut p entry out 0 exit out'
    → (first_fault (p entry).faults ≡ accepted tt) × (exit ≡ (p entry).leaves) × (out' ≡ (p entry).value)

-- so it is with every export
pub record FaultsNumberedFromOne : Type 0 where
  pub of_clearing :
      (made : Rule → Tables → Outcome) (rule : ℕ) (t : Tables) (entry : Results)
      → numbered_from_one (clearing made rule t entry).faults ≡ true
  pub of_clearing_fully :
      (rule : ℕ) (t : Tables) (entry : FullResults) → numbered_from_one (clearing_fully rule t entry).faults ≡ true
  pub of_marking :
      (rule : ℕ) (t : Tables) (s : Submission) → numbered_from_one (marking rule t s tt).faults ≡ true
  pub of_reading : (sheet : List ℕ) (entry : LentTables) → numbered_from_one (reading sheet entry).faults ≡ true
  pub of_reading_csv : (text : List ℕ) (entry : LentTables) → numbered_from_one (reading_csv text entry).faults ≡ true
  pub of_writing : (t : Tables) (entry : List ℕ) → numbered_from_one (writing t entry).faults ≡ true
  pub of_placing : (p : Places) (entry : List ℕ) → numbered_from_one (placing p entry).faults ≡ true
  pub of_explaining :
      (rule : ℕ) (t : Tables) (entry : Explanation) → numbered_from_one (explaining rule t entry).faults ≡ true
  pub of_joining : (t u : Tables) (entry : LentTables) → numbered_from_one (joining t u entry).faults ≡ true
  pub of_trying :
      (rule : ℕ) (t : Tables) (guest : ℕ) (worths row entry : List ℕ)
      → numbered_from_one (trying rule t guest worths row entry).faults ≡ true
  pub of_listing :
      (rule : ℕ) (t : Tables) (guest : ℕ) (entry : PriceList)
      → numbered_from_one (listing rule t guest entry).faults ≡ true
  pub of_gaining :
      (rule : ℕ) (t : Tables) (guest : ℕ) (worths rows : List ℕ) (entry : List ℤ)
      → numbered_from_one (gaining rule t guest worths rows entry).faults ≡ true
  pub of_entering : (p : Posting) (entry : PlainBook) → numbered_from_one (entering p entry).faults ≡ true
