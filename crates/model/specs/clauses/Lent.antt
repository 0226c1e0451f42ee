-- What a contract's parameters lend, by their names: as an `ensures` has them at entry (`.._in`) and at exit
-- (`.._out`), and as a `requires` has them (`.._lent`).
use Rattle.std.specs.Prelude.{ℕ, List}
use Rattle.std.specs.Borrow.{Bor}
use denote.MutBor.{MutBor}
use denote.Triple.Both.{Both}
use Rattle.model.specs.market.Market.{Tables, tables}
use Rattle.model.specs.market.Outcome.{Results, results}
use Rattle.model.specs.book.Book.{Book, book}
use Rattle.model.specs.market.Reasons.{OutcomeTable, outcome_table, Explanation, explanation}
use Rattle.model.specs.sheet.Lent.{LentTables, lent_tables}
use Rattle.model.specs.places.Bids.{Places, places}
use Rattle.model.specs.market.Marking.{FullResults, full_results, Submission, submission}
use Rattle.model.specs.market.Menus.{PriceList, price_list}
use Rattle.model.specs.declared.account.StationAccount.{StationAccount}

-- a lent value, as an `ensures` names it: one that is lent to be read, and one that is lent to be written
abbrev pub Lent : Type 0 → Type 0
Lent X = Both (Bor X) (Bor X)

abbrev pub MutLent : Type 0 → Type 0
MutLent X = Both (MutBor X) (MutBor X)

-- a market in five lists, with the row width of its bids
abbrev pub tables_in : (asks bays amounts tickets bids : Lent (List ℕ)) (width : ℕ) → Tables
tables_in asks bays amounts tickets bids width =
    tables asks.entry.now bays.entry.now amounts.entry.now tickets.entry.now bids.entry.now
    width

-- the result lists of a clearing
abbrev pub results_in : (stations charges sold paid : MutLent (List ℕ)) → Results
results_in stations charges sold paid =
    results stations.entry.now charges.entry.now sold.entry.now paid.entry.now

abbrev pub results_out : (stations charges sold paid : MutLent (List ℕ)) → Results
results_out stations charges sold paid = results stations.exit.now charges.exit.now sold.exit.now paid.exit.now

-- a book
abbrev pub book_in : (guests : MutLent (List ℕ)) (stations : MutLent (List StationAccount)) (house : MutLent ℕ)
    (last : MutLent (List ℕ)) → Book
book_in guests stations house last =
    book guests.entry.now stations.entry.now house.entry.now last.entry.now

abbrev pub book_out : (guests : MutLent (List ℕ)) (stations : MutLent (List StationAccount)) (house : MutLent ℕ)
    (last : MutLent (List ℕ)) → Book
book_out guests stations house last =
    book guests.exit.now stations.exit.now house.exit.now last.exit.now

-- the tables that a sheet is read into
abbrev pub lent_tables_in : (amounts tickets asks bays bids : MutLent (List ℕ)) → LentTables
lent_tables_in amounts tickets asks bays bids =
    lent_tables amounts.entry.now tickets.entry.now asks.entry.now bays.entry.now bids.entry.now

abbrev pub lent_tables_out : (amounts tickets asks bays bids : MutLent (List ℕ)) → LentTables
lent_tables_out amounts tickets asks bays bids =
    lent_tables amounts.exit.now tickets.exit.now asks.exit.now bays.exit.now bids.exit.now

-- prices, falls and cells
abbrev pub places_in : (prices falls guest_first guest_second station_first station_second : Lent (List ℕ)) → Places
places_in prices falls guest_first guest_second station_first station_second =
    places prices.entry.now falls.entry.now guest_first.entry.now guest_second.entry.now station_first.entry.now
    station_second.entry.now

-- an outcome table in three lists, and a code table with it
abbrev pub outcomes_in : (stations charges reasons : MutLent (List ℕ)) → OutcomeTable
outcomes_in stations charges reasons = outcome_table stations.entry.now charges.entry.now reasons.entry.now

abbrev pub outcomes_out : (stations charges reasons : MutLent (List ℕ)) → OutcomeTable
outcomes_out stations charges reasons = outcome_table stations.exit.now charges.exit.now reasons.exit.now

abbrev pub explanation_in : (codes stations charges reasons : MutLent (List ℕ)) → Explanation
explanation_in codes stations charges reasons = explanation codes.entry.now (outcomes_in stations charges reasons)

abbrev pub explanation_out : (codes stations charges reasons : MutLent (List ℕ)) → Explanation
explanation_out codes stations charges reasons = explanation codes.exit.now (outcomes_out stations charges reasons)

-- the lists of a clearing with its places and floors, and one that is handed in
abbrev pub full_results_in : (stations charges sold paid places floors : MutLent (List ℕ)) → FullResults
full_results_in stations charges sold paid places floors =
    full_results (results_in stations charges sold paid) places.entry.now floors.entry.now

abbrev pub full_results_out : (stations charges sold paid places floors : MutLent (List ℕ)) → FullResults
full_results_out stations charges sold paid places floors =
    full_results (results_out stations charges sold paid) places.exit.now floors.exit.now

abbrev pub submission_in : (stations charges sold paid places floors : Lent (List ℕ)) (cut margin : ℕ) → Submission
submission_in stations charges sold paid places floors cut margin =
    submission
    (full_results (results stations.entry.now charges.entry.now sold.entry.now paid.entry.now) places.entry.now
    floors.entry.now) cut margin

-- a guest's price list (`.._lent` in a `requires`)
abbrev pub price_list_lent : (bars prices : MutBor (List ℕ)) → PriceList
price_list_lent bars prices = price_list bars.now prices.now

abbrev pub price_list_in : (bars prices : MutLent (List ℕ)) → PriceList
price_list_in bars prices = price_list_lent bars.entry prices.entry

abbrev pub price_list_out : (bars prices : MutLent (List ℕ)) → PriceList
price_list_out bars prices = price_list_lent bars.exit prices.exit
