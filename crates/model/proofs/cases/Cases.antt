-- Document 01's cases, limits, calls and postings, by computation.
use mathlib.Core.Path.{refl}
use Rattle.model.specs.cases.Cases.{table_i, pair, case_e, case_eTickets, tied, case_g, single, lone, found}
use Rattle.model.specs.cases.Cases.{two, all_tied, six, six_first, six_fourth, ruled_verdict, expected, cases}
use Rattle.model.specs.cases.Cases.{CasesHold}
use Rattle.model.proofs.cases.Computing.{posting_computes, efficient_computes}

pub cases_hold : CasesHold
unfolding posting_computes efficient_computes table_i pair case_e case_eTickets tied case_g single lone two all_tied six
    six_first six_fourth ruled_verdict found expected cases
cases_hold = refl
