-- The worked lists and gains, and the order of faults, by computation.
use mathlib.Core.Path.{refl}
use Rattle.model.specs.market.Market.{first_out}
use Rattle.model.specs.market.Menus.{rivals, loses_tie, menu_of, listed, price_list_by, station_from, charge_from}
use Rattle.model.specs.market.Menus.{gain_from, row_in, gains_from, list_faults, listing_faults, gain_faults}
use Rattle.model.specs.market.Menus.{gaining_faults}
use Rattle.model.specs.cases.Cases.{pair, single, table_i, case_g}
use Rattle.model.specs.cases.Menus.{alone, ListsHold, judged_list, judged_gains, ListingsJudged, GainingsJudged}
use Rattle.model.proofs.cases.Computing.{clearing_computes}

pub lists_hold : ListsHold
unfolding clearing_computes table_i pair case_g alone first_out rivals loses_tie menu_of listed price_list_by
    station_from charge_from gain_from row_in gains_from
lists_hold = record {
  list_1 = refl;
  gains_1 = refl;
  list_g = refl;
  gains_g = refl;
  list_alone = refl;
  gains_alone = refl;
}

pub listings_judged : ListingsJudged
unfolding clearing_computes pair single case_g judged_list listing_faults list_faults
listings_judged = (refl, refl, refl, refl)

pub gainings_judged : GainingsJudged
unfolding clearing_computes pair single case_g judged_gains gaining_faults gain_faults
gainings_judged = (refl, refl, refl, refl, refl, refl)
