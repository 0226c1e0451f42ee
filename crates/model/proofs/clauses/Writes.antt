-- What the answer of `write` tells.
use Prim.Native.Nat.{ℕ}
use mathlib.Core.List.{List}
use mathlib.Core.Path.{◌≡◌, ap}
use lib.ListN.{length}
use Rattle.model.specs.Numbers.{number, answer_of_writing}
use Rattle.model.specs.Verdicts.{accepted, refused, first_fault}
use Rattle.model.specs.market.Market.{Tables}
use Rattle.model.specs.sheet.Shortest.{shortest, writing_faults, written}
use Rattle.model.specs.declared.refusal.Refusal.{Refusal}
use Rattle.std.specs.Prelude.{Result, Ok, Err}
use Rattle.model.specs.clauses.EntryPoints.{writing, Writes}
use Rattle.model.proofs.Promises.{was_accepted, was_refused}

module _ (t : Tables) (entry exit : List ℕ) (answer : Result ℕ Refusal) (k : Writes t entry answer exit) where
  pub told_refused :
      (x : Refusal) → answer ≡ Err x
      → (first_fault (writing_faults t (length entry)) ≡ refused (number x)) × (exit ≡ entry)
  unfolding answer_of_writing writing
  told_refused x q = was_refused k (ap answer_of_writing q)

  pub told_written :
      (n : ℕ) → answer ≡ Ok n
      → (first_fault (writing_faults t (length entry)) ≡ accepted tt) × (length (shortest t) ≡ n)
      × (exit ≡ written t entry)
  unfolding answer_of_writing writing
  told_written n q = was_accepted k (ap answer_of_writing q)
