-- The places, floors and marks of cases, by computation.
use mathlib.Core.Path.{refl}
use Rattle.model.specs.cases.Cases.{table_i, pair, case_e, single, tied, six}
use Rattle.model.specs.cases.Reasons.{six_twice}
use Rattle.model.specs.cases.Marking.{handed, RoundsHold, MarksHold, judged, MarkingsJudged}
use Rattle.model.specs.market.Marking.{place_table, floors_of, full_results_of, round_of, same, same_results}
use Rattle.model.specs.market.Marking.{same_submission, correct, full_lengths, full_table_faults, marking_faults}
use Rattle.model.proofs.cases.Computing.{clearing_computes}

unfoldable marking_computes : Unit {0}
unfolding clearing_computes table_i pair case_e single tied six six_twice handed place_table floors_of full_results_of
    round_of same same_results same_submission correct full_lengths full_table_faults marking_faults judged
marking_computes = tt

pub rounds_hold : RoundsHold
unfolding marking_computes
rounds_hold = record { round_1 = refl; round_e = refl; round_rule_1 = refl; round_rule_2 = refl }

pub marks_hold : MarksHold
unfolding marking_computes
marks_hold = refl

pub markings_judged : MarkingsJudged
unfolding marking_computes
markings_judged = (refl, refl, refl)
