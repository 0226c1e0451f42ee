-- The cases of comma-separated markets, by computation.
use mathlib.Core.Path.{refl}
use Rattle.model.specs.cases.Cases.{table_i, pair, case_e}
use Rattle.model.specs.cases.Sheets.{market_nine}
use Rattle.model.specs.cases.Csv.{bytes, times, number_for, expected_of, csv_e, line_cases, byte_cases, field_cases}
use Rattle.model.specs.cases.Csv.{size_cases, station_cases, many_guests, guest_cases, CsvMarketsRead}
use Rattle.model.specs.cases.Csv.{CsvMarketsLaidOut, laid_out_markets, market_widest, market_zeros, CsvRefused}
use Rattle.model.specs.claims.Csv.{bytes_faults}
use Rattle.model.proofs.cases.Computing.{csv_computes}

pub csv_markets_read : CsvMarketsRead
unfolding csv_computes bytes times csv_e pair case_e market_widest market_zeros
csv_markets_read = record { case_e_lem = refl; no_guests = refl; widest = refl; zeros = refl }

pub csv_markets_laid_out : CsvMarketsLaidOut
unfolding csv_computes bytes csv_e table_i pair case_e market_nine market_widest market_zeros laid_out_markets
csv_markets_laid_out = record { case_e_lem = refl; zeros = refl; again = refl }

pub csv_refused : CsvRefused
unfolding csv_computes bytes times number_for expected_of line_cases byte_cases field_cases size_cases station_cases
    many_guests guest_cases csv_e bytes_faults
csv_refused = record {
  lines = refl;
  other_bytes = refl;
  fields = refl;
  sizes = refl;
  stations = refl;
  guests = refl;
  lengths = refl;
  first_bytes = refl;
}
