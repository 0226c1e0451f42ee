-- The cases, by computation.
use mathlib.Core.Path.{refl}
use Rattle.model.specs.cases.Cases.{table_i, pair, case_e, single}
use Rattle.model.specs.cases.Sheets.{sheet_a, sheet_e, sheet_e0, sheet_i, sheet_nine, market_nine, MarketsRead}
use Rattle.model.specs.cases.Sheets.{TruncationsRefused, FaultsRefused, LengthsRefused, MarketsWritten}
use Rattle.model.specs.cases.Sheets.{WritingsJudged, rows_e, both_bids, EmptyBidsRefused, EmptyBidsInTurn}
use Rattle.model.specs.cases.Sheets.{sheet_forty, EmptyBidOfFortyRefused}
use Rattle.model.proofs.cases.Computing.{reading_computes, writing_computes}

pub markets_read : MarketsRead
unfolding reading_computes sheet_a table_i sheet_e pair case_e sheet_i sheet_nine market_nine
markets_read = refl

pub truncations_refused : TruncationsRefused
unfolding reading_computes sheet_e
truncations_refused = refl

pub faults_refused : FaultsRefused
unfolding reading_computes sheet_e
faults_refused = refl

pub empty_bids_refused : EmptyBidsRefused
unfolding reading_computes sheet_e sheet_e0 rows_e both_bids pair
empty_bids_refused = refl

pub empty_bids_in_turn : EmptyBidsInTurn
unfolding reading_computes sheet_e rows_e both_bids
empty_bids_in_turn = (refl, refl, refl)

pub empty_bid_of_forty_refused : EmptyBidOfFortyRefused
unfolding reading_computes sheet_forty
empty_bid_of_forty_refused = refl

pub lengths_refused : LengthsRefused
unfolding reading_computes
lengths_refused = (refl, refl)

pub markets_written : MarketsWritten
unfolding writing_computes sheet_a table_i sheet_e pair case_e sheet_i sheet_nine market_nine
markets_written = refl

pub writings_judged : WritingsJudged
unfolding writing_computes pair case_e single
writings_judged = refl
