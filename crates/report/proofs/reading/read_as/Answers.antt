use Rattle.model.proofs.clauses.Reads.{read_counts}
use Rattle.model.proofs.clauses.ReadsCsv.{read_csv_counts}
use Rattle.report.specs.Readers.{ReadsAs}
use Rattle.report.proofs.reading.read_as.Goals as goal

pub returns-in-Sheet-clause-counts : goal.returns-in-Sheet-clause-counts
returns-in-Sheet-clause-counts c = read_counts _ _ _ _ c.read.ensures

pub returns-in-Sheet-clause-read : goal.returns-in-Sheet-clause-read
unfolding ReadsAs
returns-in-Sheet-clause-read c = rw c.in-Sheet.is c.read.ensures

pub returns-in-Csv-clause-counts : goal.returns-in-Csv-clause-counts
returns-in-Csv-clause-counts c = read_csv_counts _ _ _ _ c.read_csv.ensures

pub returns-in-Csv-clause-read : goal.returns-in-Csv-clause-read
unfolding ReadsAs
returns-in-Csv-clause-read c = rw c.in-Csv.is c.read_csv.ensures
