-- What `print_page` promises of a market in its layout: what its reader leaves, and the written text.
use Prim.Native.Nat.{ℕ, ◌*◌, ◌≤◌}
use mathlib.Core.List.{List}
use mathlib.Core.Path.{◌≡◌, refl, sym, ap, ◌∙◌}
use native.Mathlib.Omega.{arith}
use lib.ListN.{length, take, length-take}
use Rattle.model.specs.Limits.{max_guests, max_stations, max_bids}
use Rattle.model.specs.Numbers.{number}
use Rattle.model.specs.Verdicts.{Answer, accepted, refused}
use Rattle.model.specs.market.Market.{Tables, tables}
use Rattle.model.specs.sheet.Lent.{LentTables, lent_tables}
use Rattle.model.proofs.clauses.Reads.{ReadTables, read_tables, read_fault}
use Rattle.model.proofs.clauses.ReadsCsv.{read_csv_tables, read_csv_fault}
use Rattle.model.specs.text.MarketText.{page_of}
use Rattle.report.specs.Readers.{ReadsAs}
use Rattle.model.specs.text.Printed.{read_text, read_as, printed}
use Rattle.model.specs.declared.answers.Counts.{Counts}
use Rattle.std.specs.Prelude.{Result, Ok, Err}
use Rattle.report.specs.Tried.{Tried}
use Rattle.model.specs.declared.page.Layout.{Layout}
use Rattle.model.specs.declared.page.Layout.TheVariants.{Sheet, Csv}
use Rattle.model.specs.declared.page.Page.{Page}
use Rattle.model.specs.declared.refusal.Refusal.{Refusal}

-- ---- what either reader leaves

module _ (bytes : List ℕ) (entry exit : LentTables) (r : Result Counts Refusal) where
  pub tables_read :
      (of : Layout) → ReadsAs of bytes entry r exit → (c : Counts) → r ≡ Ok c
      → ReadTables (read_as of bytes) c.guests c.stations exit
  unfolding ReadsAs read_as
  tables_read Sheet k = read_tables bytes entry exit r k
  tables_read Csv k = read_csv_tables bytes entry exit r k

  fault_read :
      (of : Layout) → ReadsAs of bytes entry r exit → (x : Refusal) → length entry.amounts ≡ max_guests
      → length entry.tickets ≡ max_guests → length entry.asks ≡ max_stations → length entry.bays ≡ max_stations
      → length entry.bids ≡ max_bids → r ≡ Err x → read_as of bytes ≡ refused (number x)
  unfolding ReadsAs read_as
  fault_read Sheet k = read_fault bytes entry exit r k
  fault_read Csv k = read_csv_fault bytes entry exit r k

-- ---- the written text

module _ (l : List ℕ) (of : Layout) (asked : Page) (bytes : List ℕ) where
  pub tried_fault :
      (entry exit : LentTables) (x : Refusal) → ReadsAs of bytes entry (Err x) exit
      → length entry.amounts ≡ max_guests → length entry.tickets ≡ max_guests → length entry.asks ≡ max_stations
      → length entry.bays ≡ max_stations → length entry.bids ≡ max_bids
      → Tried (printed of asked (length l) bytes) l (Err x) l
  unfolding Tried printed read_text
  tried_fault entry exit x k a b c d e =
      (rw (fault_read bytes entry exit (Err x) of k x a b c d e refl) refl, refl)

  pub tried_market :
      (l' : List ℕ) (r : Result ℕ Refusal) (t u : Tables) → read_as of bytes ≡ accepted u → t ≡ u
      → Tried (page_of asked (length l) t) l r l' → Tried (printed of asked (length l) bytes) l r l'
  unfolding printed read_text
  tried_market l' r t u e f p = rw e (rw f at p)

-- ---- the tables that were read, as parts of the lent ones

pub read_part_long : (xs ys : List ℕ) (n : ℕ) → take n xs ≡ ys → length ys ≡ n → n ≡ length (take n xs)
read_part_long xs ys n e h = sym (ap length e ∙ h)

pub part_fits : (xs ys : List ℕ) (n : ℕ) → take n xs ≡ ys → length ys ≡ n → n ≤ length xs
part_fits xs ys n e h = omega (arith, length-take n xs, read_part_long xs ys n e h)

pub same_tables :
    {answer : Answer Tables} {a k b c d : List ℕ} {n m : ℕ} (r : ReadTables answer n m (lent_tables a k b c d))
    → tables (take m b) (take m c) (take n a) (take n k) (take (n * m) d) m ≡ r.market
same_tables r = λ i. record {
  asks = r.asks_are i;
  bays = r.bays_are i;
  amounts = r.amounts_are i;
  tickets = r.tickets_are i;
  bids = r.bids_are i;
  width = (sym r.m_is ∙ sym r.shape.width_is) i;
}
