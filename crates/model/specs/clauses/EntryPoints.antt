-- What each entry point promises: faults, value, what it leaves, by what it is lent at entry (`Promise`). Its contract
-- says that it keeps that, and the contract of its export is `KeepsOut` or `RepliesOut` of the same promise.
use Rattle.std.specs.Prelude.{ℕ, ◌-◌, ◌/◌, Bool, List, ℤ, get_or, length, Result}
use Rattle.model.specs.Numbers.{answer_of_reading, answer_of_writing, answer_of_clearing, answer_of_verdict}
use Rattle.model.specs.Numbers.{answer_of_trying, answer_of_marking}
use Rattle.model.specs.Counting.{only}
use Rattle.model.specs.Promises.{Promise, Keeps}
use Rattle.model.specs.Verdicts.{Verdict}
use Rattle.model.specs.market.Market.{Tables}
use Rattle.model.specs.market.Faults.{table_faults, clearing_faults, explaining_faults}
use Rattle.model.specs.market.Marking.{FullResults, full_results_of, Submission, correct, marking_faults}
use Rattle.model.specs.market.Menus.{PriceList, price_list_by, gains_from, listing_faults, gaining_faults}
use Rattle.model.specs.market.Outcome.{Results, Outcome, outcome}
use Rattle.model.specs.market.Reasons.{codes, outcome_lengths, guest_outcomes, Explanation, explanation}
use Rattle.model.specs.market.Rules.{position, rule_of}
use Rattle.model.specs.market.Gates.{joining_faults, joined_tables}
use Rattle.model.specs.market.Changes.{changes_with, trying_faults, both_gains}
use Rattle.model.specs.sheet.Content.{guests, stations, tables_of}
use Rattle.model.specs.sheet.Lent.{LentTables, reading_faults, filled}
use Rattle.model.specs.csv.Content.{guests as csv_guests, csv_tables}
use Rattle.model.specs.csv.Faults.{stations as csv_stations, reading_csv_faults}
use Rattle.model.specs.sheet.Shortest.{shortest, writing_faults, written}
use Rattle.model.specs.places.Bids.{Places, placed_bids}
use Rattle.model.specs.places.Faults.{placing_faults}
use Rattle.model.specs.book.Book.{Book, plain}
use Rattle.model.specs.book.PlainBook.{PlainBook, posting_faults, entered_of}
use Rattle.model.specs.book.Posting.{Posting}
use Rattle.model.specs.declared.answers.Counts.{Counts}
use Rattle.model.specs.declared.answers.Figures.{Figures}
use Rattle.model.specs.declared.answers.Gains.{Gains as BothGains}
use Rattle.model.specs.declared.refusal.Refusal.{Refusal}
use Rattle.model.specs.declared.rule.Rule.{Rule}

-- ---- clearing, under the rule of this number, whose outcome is `made` by it: the cut and the margin

unfoldable pub clearing :
    (made : Rule → Tables → Outcome) (rule : ℕ) (t : Tables) (entry : Results) → Promise (ℕ × ℕ) Results
clearing made rule t entry = record {
  faults = clearing_faults rule t entry;
  value = ((made (rule_of rule) t).cut, (made (rule_of rule) t).margin);
  leaves = (made (rule_of rule) t).results;
}

abbrev pub Clears : (made : Rule → Tables → Outcome) (rule : ℕ) (t : Tables) (entry : Results)
    (answer : Result Figures Refusal) (exit : Results) → Type 0
Clears made rule t entry answer exit = Keeps (clearing made rule t) entry (answer_of_clearing answer) exit

-- of `clear_under`: the rule is known, so that the tables decide
unfoldable pub clearing_under : (made : Tables → Outcome) (t : Tables) (entry : Results) → Promise (ℕ × ℕ) Results
clearing_under made t entry =
    record { faults = table_faults t entry; value = ((made t).cut, (made t).margin); leaves = (made t).results }

abbrev pub ClearsUnder :
    (made : Tables → Outcome) (t : Tables) (entry : Results) (answer : Result Figures Refusal) (exit : Results) → Type 0
ClearsUnder made t entry answer exit = Keeps (clearing_under made t) entry (answer_of_clearing answer) exit

-- ---- `clear_marked`, a truthful clearing with its places and floors: the cut and the margin

unfoldable pub clearing_fully : (rule : ℕ) (t : Tables) (entry : FullResults) → Promise (ℕ × ℕ) FullResults
clearing_fully rule t entry = record {
  faults = marking_faults rule t entry;
  value = ((outcome (rule_of rule) t).cut, (outcome (rule_of rule) t).margin);
  leaves = full_results_of (rule_of rule) t;
}

abbrev pub ClearsFully :
    (rule : ℕ) (t : Tables) (entry : FullResults) (answer : Result Figures Refusal) (exit : FullResults) → Type 0
ClearsFully rule t entry answer exit = Keeps (clearing_fully rule t) entry (answer_of_clearing answer) exit

-- ---- `mark`, of what is handed in: 1 where it is correct, else 0. Nothing is lent to be written

unfoldable pub marking : (rule : ℕ) (t : Tables) (s : Submission) (entry : Unit {0}) → Promise ℕ Unit
marking rule t s entry =
    record { faults = marking_faults rule t s.lists; value = only (correct (rule_of rule) t s) 1; leaves = tt }

abbrev pub Marks : (rule : ℕ) (t : Tables) (s : Submission) (answer : Result Bool Refusal) → Type 0
Marks rule t s answer = Keeps (marking rule t s) tt (answer_of_marking answer) tt

-- ---- `read`: n and m

unfoldable pub reading : (sheet : List ℕ) (entry : LentTables) → Promise (ℕ × ℕ) LentTables
reading sheet entry = record {
  faults = reading_faults entry sheet;
  value = (guests sheet, stations sheet);
  leaves = filled (tables_of sheet) entry;
}

abbrev pub Reads : (sheet : List ℕ) (entry : LentTables) (answer : Result Counts Refusal) (exit : LentTables) → Type 0
Reads sheet entry answer exit = Keeps (reading sheet) entry (answer_of_reading answer) exit

-- ---- `read_csv`: n and m

unfoldable pub reading_csv : (text : List ℕ) (entry : LentTables) → Promise (ℕ × ℕ) LentTables
reading_csv text entry = record {
  faults = reading_csv_faults entry text;
  value = (csv_guests text, csv_stations text);
  leaves = filled (csv_tables text) entry;
}

abbrev pub ReadsCsv : (text : List ℕ) (entry : LentTables) (answer : Result Counts Refusal) (exit : LentTables) → Type 0
ReadsCsv text entry answer exit = Keeps (reading_csv text) entry (answer_of_reading answer) exit

-- ---- `write`: the sheet's length

unfoldable pub writing : (t : Tables) (entry : List ℕ) → Promise ℕ (List ℕ)
writing t entry =
    record { faults = writing_faults t (length entry); value = length (shortest t); leaves = written t entry }

abbrev pub Writes : (t : Tables) (entry : List ℕ) (answer : Result ℕ Refusal) (exit : List ℕ) → Type 0
Writes t entry answer exit = Keeps (writing t) entry (answer_of_writing answer) exit

-- ---- `place_bids`: no value

unfoldable pub placing : (p : Places) (entry : List ℕ) → Promise Unit (List ℕ)
placing p entry = record { faults = placing_faults p (length entry); value = tt; leaves = placed_bids p }

abbrev pub PlacesBids : (p : Places) (entry : List ℕ) (answer : Result Unit Refusal) (exit : List ℕ) → Type 0
PlacesBids p entry answer exit = Keeps (placing p) entry (answer_of_verdict answer) exit

-- ---- `explain`: no value. Its contract is over the arrays that it answers; the export leaves them in lent lists

unfoldable pub explaining : (rule : ℕ) (t : Tables) (entry : Explanation) → Promise Unit Explanation
explaining rule t entry = record {
  faults = explaining_faults rule t (length entry.codes) (outcome_lengths entry.outcomes);
  value = tt;
  leaves = explanation (codes (rule_of rule) t) (guest_outcomes (rule_of rule) t);
}

-- ---- `join`: no value

unfoldable pub joining : (t u : Tables) (entry : LentTables) → Promise Unit LentTables
joining t u entry = record { faults = joining_faults t u entry; value = tt; leaves = joined_tables t u }

abbrev pub Joins : (t u : Tables) (entry : LentTables) (answer : Result Unit Refusal) (exit : LentTables) → Type 0
Joins t u entry answer exit = Keeps (joining t u) entry (answer_of_verdict answer) exit

-- ---- `try_row`, of a guest that is named from 1 on: both gains

unfoldable pub trying :
    (rule : ℕ) (t : Tables) (guest : ℕ) (worths row : List ℕ) (entry : List ℕ) → Promise (ℤ × ℤ) (List ℕ)
trying rule t guest worths row entry = record {
  faults = trying_faults rule t guest worths row (length entry);
  value = both_gains (rule_of rule) t guest worths row;
  leaves = changes_with (rule_of rule) t (guest - 1) row;
}

abbrev pub Tries : (rule : ℕ) (t : Tables) (guest : ℕ) (worths row : List ℕ) (entry : List ℕ)
    (answer : Result BothGains Refusal) (exit : List ℕ) → Type 0
Tries rule t guest worths row entry answer exit =
    Keeps (trying rule t guest worths row) entry (answer_of_trying answer) exit

-- ---- `price_list`, of a guest that is named from 1 on: no value

unfoldable pub listing : (rule : ℕ) (t : Tables) (guest : ℕ) (entry : PriceList) → Promise Unit PriceList
listing rule t guest entry = record {
  faults = listing_faults rule t guest (length entry.bars) (length entry.prices);
  value = tt;
  leaves = price_list_by (position (rule_of rule)) t (guest - 1);
}

abbrev pub Lists :
    (rule : ℕ) (t : Tables) (guest : ℕ) (entry : PriceList) (answer : Result Unit Refusal) (exit : PriceList) → Type 0
Lists rule t guest entry answer exit = Keeps (listing rule t guest) entry (answer_of_verdict answer) exit

-- ---- `gains`, of rows one after the other, by the guest's worths and its price list: no value

unfoldable pub gaining :
    (rule : ℕ) (t : Tables) (guest : ℕ) (worths rows : List ℕ) (entry : List ℤ) → Promise Unit (List ℤ)
gaining rule t guest worths rows entry = record {
  faults = gaining_faults rule t guest worths rows (length entry);
  value = tt;
  leaves = gains_from (price_list_by (position (rule_of rule)) t (guest - 1)) (get_or t.amounts (guest - 1) 0) worths
      (length t.asks) rows (length rows / length t.asks);
}

abbrev pub Gains : (rule : ℕ) (t : Tables) (guest : ℕ) (worths rows : List ℕ) (entry : List ℤ)
    (answer : Result Unit Refusal) (exit : List ℤ) → Type 0
Gains rule t guest worths rows entry answer exit =
    Keeps (gaining rule t guest worths rows) entry (answer_of_verdict answer) exit

-- ---- `post`: no value; its book is held to the plain one

unfoldable pub entering : (p : Posting) (entry : PlainBook) → Promise Unit PlainBook
entering p entry = record {
  faults = posting_faults p.rule p.tables p.desk p.round entry;
  value = tt;
  leaves = entered_of p entry;
}

abbrev pub Posts : (entry : Book) (p : Posting) (answer : Verdict) (exit : Book) → Type 0
Posts entry p answer exit = Keeps (entering p) (plain entry) answer (plain exit)
