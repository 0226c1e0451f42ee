-- Request 10: the first fault decides; and over calls of the exported `read_csv`: from the text, the number, n, m and
-- the lent tables alone. Each statement is a type; its proof is a term of proofs/.
use Rattle.std.specs.Prelude.{ℕ, suc, List, [], ◌∷◌, ◌++◌, ◌↔◌, ◌≡◌, length}
use Rattle.model.specs.Promises.{KeepsOut}
use Rattle.model.specs.Verdicts.{Row, refused, first_fault}
use Rattle.model.specs.market.Market.{Tables}
use Rattle.model.specs.sheet.Layout.{Fitting}
use Rattle.model.specs.sheet.Lent.{LentTables, filled}
use Rattle.model.specs.csv.Faults.{stations, byte_faults, csv_faults}
use Rattle.model.specs.csv.Text.{StatesCsv, text_of}
use Rattle.model.specs.clauses.EntryPoints.{reading_csv}
use Rattle.model.specs.claims.Sheets.{RightSizes}
use Rattle.model.specs.claims.Writings.{market_in}

-- the rows of the first bytes of a text of m stations
unfoldable pub bytes_faults : (m : ℕ) (past bytes : List ℕ) → List Row
bytes_faults m past [] = []
bytes_faults m past (b ∷ bytes) = byte_faults m past b ++ bytes_faults m (b ∷ past) bytes

-- 'the first fault in byte order': where it is among the first bytes, it is that of every text that begins with them,
-- whatever follows; so nothing hangs on m before its line has ended
abbrev pub FirstFaultDecides : Type 0
FirstFaultDecides =
    (bytes rest other : List ℕ) (k : ℕ) → first_fault (bytes_faults (stations (bytes ++ rest)) [] bytes) ≡ refused k
    → first_fault (csv_faults (bytes ++ other)) ≡ refused k

-- ---- over calls

-- a call on this text: lent tables and n and m, before and after, and its number
abbrev pub CallsCsv :
    (text : List ℕ) (entry : LentTables) (out : ℕ × ℕ) (number : ℕ) (exit : LentTables) (out' : ℕ × ℕ) → Type 0
CallsCsv text = KeepsOut (reading_csv text)

-- it answers 0 exactly where the lent tables have their sizes and the text states a market
abbrev pub CsvReadIffStated : Type 0
CsvReadIffStated =
    (text : List ℕ) (entry exit : LentTables) (out out' : ℕ × ℕ) (number : ℕ) → CallsCsv text entry out number exit out'
    → (number ≡ 0) ↔ (RightSizes entry × ((t : Tables) × StatesCsv text t))

-- it read t: n and m are t's, and t stands over the first places of the tables, the others as they were
pub record CsvReadAs (t : Tables) (entry exit : LentTables) (number : ℕ) (out' : ℕ × ℕ) : Type 0 where
  pub answered : number ≡ 0
  pub counts_are : out' ≡ (length t.amounts, length t.asks)
  pub left : exit ≡ filled t entry
  pub shown : market_in exit out'.0 out'.1 ≡ t

-- a text that states t is read as t; so is the one that lays t out, for every t with 1 to 40 stations, at most 200
-- guests and values within the widths, accepted by the clearing or not
abbrev pub CsvStatedIsRead : Type 0
CsvStatedIsRead =
    (text : List ℕ) (t : Tables) (entry exit : LentTables) (out out' : ℕ × ℕ) (number : ℕ) → StatesCsv text t
    → RightSizes entry → CallsCsv text entry out number exit out' → CsvReadAs t entry exit number out'

abbrev pub CsvLaidOutIsRead : Type 0
CsvLaidOutIsRead =
    (t : Tables) (entry exit : LentTables) (out out' : ℕ × ℕ) (number : ℕ) → Fitting t → RightSizes entry
    → CallsCsv (text_of t) entry out number exit out' → CsvReadAs t entry exit number out'

-- whatever was read, the tables show a market that the text states, with such counts and values
abbrev pub CsvReadIsStated : Type 0
CsvReadIsStated =
    (text : List ℕ) (entry exit : LentTables) (out out' : ℕ × ℕ) → CallsCsv text entry out 0 exit out'
    → StatesCsv text (market_in exit out'.0 out'.1) × Fitting (market_in exit out'.0 out'.1)

-- a fault among the first bytes is answered, whatever follows them
abbrev pub CsvFirstFaultAnswered : Type 0
CsvFirstFaultAnswered =
    (bytes rest other : List ℕ) (entry exit : LentTables) (out out' : ℕ × ℕ) (number k : ℕ) → RightSizes entry
    → first_fault (bytes_faults (stations (bytes ++ rest)) [] bytes) ≡ refused k
    → CallsCsv (bytes ++ other) entry out number exit out' → number ≡ k

-- a refused text changes nothing
abbrev pub CsvRefusedLeaves : Type 0
CsvRefusedLeaves =
    (text : List ℕ) (entry exit : LentTables) (out out' : ℕ × ℕ) (k : ℕ) → CallsCsv text entry out (suc k) exit out'
    → (exit ≡ entry) × (out' ≡ out)

-- there are such calls: one that reads t, and one that is refused
pub record CsvReadCall (text : List ℕ) : Type 0 where
  pub entry : LentTables
  pub right_sizes : RightSizes entry
  pub exit : LentTables
  pub out : ℕ × ℕ
  pub out' : ℕ × ℕ
  pub call : CallsCsv text entry out 0 exit out'

abbrev pub CsvReadCallExists : Type 0
CsvReadCallExists = (t : Tables) → Fitting t → CsvReadCall (text_of t)

abbrev pub CsvRefusedCallExists : Type 0
CsvRefusedCallExists = (entry : LentTables) (out : ℕ × ℕ) → RightSizes entry → CallsCsv [] entry out 22 entry out
