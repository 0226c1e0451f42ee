-- Another row tried: the instance and the faults by computation.
use mathlib.Core.Path.{refl}
use native.Mathlib.Omega.{arith}
use Rattle.model.specs.market.Changes.{bid_table, bids_with_row, gain, seat_change, change, changes, changed}
use Rattle.model.specs.market.Changes.{changes_with, differ, places_changed, try_faults, trying_faults, both_gains}
use Rattle.model.specs.cases.Cases.{pair, single, case_g}
use Rattle.model.specs.cases.Instances.{overbid}
use Rattle.model.specs.cases.OtherRows.{RowInstance, judged, TryingsJudged}
use Rattle.model.proofs.cases.Computing.{clearing_computes}

pub row_instance : RowInstance
unfolding clearing_computes pair case_g overbid bid_table bids_with_row gain seat_change change changes changed
    changes_with differ places_changed both_gains
row_instance = record {
  tried_is = refl;
  gains_are = refl;
  changes_are = refl;
  places_are = refl;
  few = omega arith;
  gains_back = refl;
  changes_back = refl;
}

pub tryings_judged : TryingsJudged
unfolding clearing_computes pair single case_g try_faults trying_faults judged
tryings_judged = (refl, refl, refl, refl, refl, refl)
