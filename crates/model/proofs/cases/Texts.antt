-- The texts, by computation.
use mathlib.Core.Path.{refl}
use Rattle.model.specs.cases.Cases.{pair, case_e, single}
use Rattle.model.specs.cases.Csv.{bytes, csv_e}
use Rattle.model.specs.cases.Sheets.{sheet_e, sheet_e0}
use Rattle.model.specs.cases.Texts.{text_e, text_nine, text_nineteen, text_twenty_two, TextsHold}
use Rattle.model.specs.cases.Texts.{on_sheet, on_csv, AskedHold, CsvAskedHold}
use Rattle.model.specs.text.Asked.{◌spells◌, rule_spelt, rule_asked, by_rule, sheet_asked, page_asked, asked}
use Rattle.model.proofs.cases.Computing.{printing_computes}

pub texts_hold : TextsHold
unfolding printing_computes pair case_e single bytes csv_e text_e text_nine text_nineteen text_twenty_two sheet_e
    sheet_e0
texts_hold = record {
  case_e_lem = refl;
  sheet_e_lem = refl;
  csv_e_lem = refl;
  csv_as_sheet = refl;
  sheet_for_csv = refl;
  empty_bid = refl;
  bid_too_high = refl;
}

pub asked_hold : AskedHold
unfolding printing_computes ◌spells◌ rule_spelt rule_asked by_rule sheet_asked page_asked asked on_sheet
asked_hold = refl

pub csv_asked_hold : CsvAskedHold
unfolding printing_computes ◌spells◌ rule_spelt rule_asked by_rule sheet_asked page_asked asked on_csv
csv_asked_hold = refl
