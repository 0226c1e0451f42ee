-- What computes in the proofs of cases. Such a proof unfolds one of these names, and with it what its line names.
use Rattle.model.specs.Counting.{◌<?◌, ◌≤?◌, ◌=?◌, ◌and◌, ◌or◌, only, sum, greatest, count, some, any, list}
use Rattle.model.specs.Counting.{joined}
use Rattle.model.specs.Numbers.{answer_of_clearing}
use Rattle.model.specs.Verdicts.{first_fault, giving, updated, number_of}
use Rattle.model.specs.market.Market.{bid_at, market_by, market, cut, opens, screen, queue}
use Rattle.model.specs.market.Market.{before, rank, provisional, critical}
use Rattle.model.specs.market.Rules.{median, two_thirds, position, named, is_unknown, rule_in}
use Rattle.model.specs.market.Mechanism.{at, charge, charged, obtained, served, sold, paid, margin, better, best}
use Rattle.model.specs.market.Mechanism.{surplus, truthful}
use Rattle.model.specs.market.Stable.{sooner}
use Rattle.model.specs.market.Efficient.{insert, insert_where, insert_guest, candidacies_below, candidacies, put}
use Rattle.model.specs.market.Efficient.{bay_left, assign, first_of, turn_away, take_one, take_all, nobody, efficient}
use Rattle.model.specs.market.Outcome.{outcome_by, screened, decision, outcome, efficient_decision}
use Rattle.model.specs.market.Outcome.{efficient_outcome}
use Rattle.model.specs.market.Faults.{outside, repeats, counts, lengths, values, list_lengths, market_faults}
use Rattle.model.specs.market.Faults.{unknown_rule, verdict, table_faults, clearing_faults}
use Rattle.model.specs.market.Gains.{guest_gain, station_gain}
use Rattle.model.specs.book.PlainBook.{raised, entered, over_limit, book_size, no_desk, out_of_turn}
use Rattle.model.specs.book.PlainBook.{posting_faults, empty_plain, answer, after, answers, final}
use Rattle.model.specs.book.Book.{sold_of, paid_of, empty_book, plain}
use Rattle.model.specs.sheet.Fields.{little_endian, map_width, has_bit}
use Rattle.model.specs.sheet.Rows.{map_at, bids_at, next_at, row_at, ask_of, bays_of, amount_of, ticket_of, bid_by}
use Rattle.model.specs.sheet.Rows.{bid_of}
use Rattle.model.specs.sheet.Rows.{bid_faults, bids_faults, row_faults, rows_faults}
use Rattle.model.specs.sheet.Content.{guests, stations, tables_of, sheet_faults, read_sheet}
use Rattle.model.specs.sheet.Layout.{bytes_of, pack, station, stated, row, layout, bidden}
use Rattle.model.specs.sheet.Shortest.{shortest, writing_faults}
use Rattle.model.specs.places.Bids.{difference, squared_distance, walk, bid_between, guest_cell, station_cell}
use Rattle.model.specs.places.Bids.{placed_bid, placed_bids}
use Rattle.model.specs.places.Faults.{place_lengths, place_values, placing_faults}
use Rattle.model.specs.sheet.Lent.{table_lengths, reading_faults}
use Rattle.model.specs.csv.Places.{is_digit, line_of, field_of, digits_of, value_of, after_cr, starts_line}
use Rattle.model.specs.csv.Faults.{first_fields, stations as csv_stations, fields_of, is_bid, is_narrow, most_by, most}
use Rattle.model.specs.csv.Faults.{too_large, too_many, is_missing, misplaced, byte_faults, end_faults, faults_from}
use Rattle.model.specs.csv.Faults.{csv_faults, reading_csv_faults}
use Rattle.model.specs.csv.Content.{guests as csv_guests, ending, values_from, values as csv_values, value}
use Rattle.model.specs.csv.Content.{guest_field, csv_tables, read_csv}
use Rattle.model.specs.csv.Text.{more_fields, line as csv_line, lines, bid_text, guest_fields, laid_out}
use Rattle.model.specs.csv.Text.{text_of}
use Rattle.model.specs.text.Decimal.{higher, digits, decimal, field}
use Rattle.model.specs.text.Lines.{guest_line, station_line, guest_lines, station_lines}
use Rattle.model.specs.text.Text.{text, refusal_text}
use Rattle.model.specs.text.MarketText.{market_text, market_text_of, sheet_page, sheet_page_of, page_of}
use Rattle.model.specs.text.Printed.{read_text, read_as, printed}

unfoldable pub counting_computes : Unit {0}
unfolding ◌<?◌ ◌≤?◌ ◌=?◌ ◌and◌ ◌or◌ only sum greatest count some any list joined first_fault giving updated
counting_computes = tt

unfoldable pub clearing_computes : Unit {0}
unfolding counting_computes median two_thirds position named is_unknown rule_in bid_at market_by market cut opens screen
    queue before rank provisional critical at charge charged obtained sold paid margin better best surplus truthful
    outcome_by screened decision outcome guest_gain station_gain outside repeats counts lengths values list_lengths
    market_faults verdict unknown_rule table_faults clearing_faults answer_of_clearing
clearing_computes = tt

unfoldable pub efficient_computes : Unit {0}
unfolding clearing_computes sooner insert insert_where insert_guest candidacies_below candidacies served put bay_left
    assign first_of turn_away take_one take_all nobody efficient efficient_decision efficient_outcome
efficient_computes = tt

unfoldable pub posting_computes : Unit {0}
unfolding clearing_computes raised entered over_limit book_size no_desk out_of_turn posting_faults empty_plain answer
    after answers final sold_of paid_of empty_book plain
posting_computes = tt

unfoldable pub reading_computes : Unit {0}
unfolding counting_computes counts little_endian map_width has_bit map_at bids_at next_at row_at ask_of bays_of
    amount_of ticket_of bid_by bid_of bid_faults bids_faults row_faults rows_faults guests stations tables_of
    sheet_faults read_sheet table_lengths reading_faults
reading_computes = tt

unfoldable pub writing_computes : Unit {0}
unfolding counting_computes outside repeats counts lengths values market_faults bid_at map_width bytes_of pack station
    stated row layout bidden shortest writing_faults
writing_computes = tt

unfoldable pub placing_computes : Unit {0}
unfolding counting_computes outside counts difference squared_distance walk bid_between guest_cell station_cell
    placed_bid placed_bids place_lengths place_values placing_faults
placing_computes = tt

unfoldable pub csv_computes : Unit {0}
unfolding counting_computes number_of is_digit line_of field_of digits_of value_of after_cr starts_line first_fields
    csv_stations fields_of is_bid is_narrow most_by most too_large too_many is_missing misplaced byte_faults end_faults
    faults_from csv_faults reading_csv_faults table_lengths csv_guests ending values_from csv_values value guest_field
    csv_tables read_csv bid_at higher digits decimal more_fields csv_line lines bid_text guest_fields laid_out text_of
csv_computes = tt

unfoldable pub printing_computes : Unit {0}
unfolding clearing_computes reading_computes csv_computes writing_computes higher digits decimal field guest_line
    station_line guest_lines station_lines text refusal_text market_text market_text_of sheet_page sheet_page_of page_of
    read_text read_as printed
printing_computes = tt
