-- The codes and outcomes of cases, by computation.
use mathlib.Core.Path.{refl}
use Rattle.model.specs.Verdicts.{number_of}
use Rattle.model.specs.cases.Cases.{table_i, pair, case_e, single, tied, six}
use Rattle.model.specs.cases.Sheets.{sheet_e}
use Rattle.model.specs.cases.Reasons.{reasons_e, six_twice, ReasonsHold, judged, ExplainingsJudged}
use Rattle.model.specs.market.Faults.{explained_lengths, explained_faults, explaining_faults}
use Rattle.model.specs.market.Reasons.{conditions, code, codes, highest_code, loss, guest_outcomes}
use Rattle.model.specs.text.ReasonsText.{reason_word, win_line, loss_line, outcome_line, outcome_lines, reasons_text}
use Rattle.model.specs.text.MarketText.{reasons_page, reasons_page_of}
use Rattle.model.proofs.cases.Computing.{clearing_computes, printing_computes}

pub reasons_hold : ReasonsHold
unfolding printing_computes table_i pair case_e six six_twice sheet_e reasons_e number_of conditions code codes
    highest_code loss guest_outcomes reason_word win_line loss_line outcome_line outcome_lines reasons_text reasons_page
    reasons_page_of
reasons_hold = record {
  codes_1 = refl;
  outcomes_1 = refl;
  codes_e = refl;
  outcomes_e = refl;
  page_e = refl;
  codes_rule_1 = refl;
  outcomes_rule_1 = refl;
  codes_rule_2 = refl;
  outcomes_rule_2 = refl;
}

pub explainings_judged : ExplainingsJudged
unfolding clearing_computes case_e pair single tied explained_lengths explained_faults explaining_faults judged
explainings_judged = (refl, refl, refl)
