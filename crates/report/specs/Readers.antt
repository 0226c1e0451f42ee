-- The contract of the reader of each layout.
use Rattle.std.specs.Prelude.{ℕ, List, Result}
use Rattle.model.specs.sheet.Lent.{LentTables}
use Rattle.model.specs.clauses.EntryPoints.{Reads, ReadsCsv}
use Rattle.model.specs.declared.answers.Counts.{Counts}
use Rattle.model.specs.declared.page.Layout.{Layout}
use Rattle.model.specs.declared.page.Layout.TheVariants.{Sheet, Csv}
use Rattle.model.specs.declared.refusal.Refusal.{Refusal}

unfoldable pub ReadsAs :
    Layout → (bytes : List ℕ) (entry : LentTables) (answer : Result Counts Refusal) (exit : LentTables) → Type 0
ReadsAs Sheet = Reads
ReadsAs Csv = ReadsCsv
