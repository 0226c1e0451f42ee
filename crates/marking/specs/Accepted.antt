-- What the clearing of an accepted market with its places and floors promises, and a call under a known rule. Nothing
-- that `clear_marked` or `mark` promises depends on this file.
use Rattle.std.specs.Prelude.{ℕ, ◌*◌, Bool, Result, ◌≡◌, length}
use Rattle.model.specs.Counting.{only}
use Rattle.model.specs.Numbers.{answer_of_clearing, answer_of_marking}
use Rattle.model.specs.Promises.{Promise, Keeps}
use Rattle.model.specs.market.Market.{Tables}
use Rattle.model.specs.market.Outcome.{outcome}
use Rattle.model.specs.market.Marking.{FullResults, full_results_of, Submission, correct, full_table_faults}
use Rattle.model.specs.claims.Meaning.{RightLengths}
use Rattle.model.specs.declared.answers.Figures.{Figures}
use Rattle.model.specs.declared.refusal.Refusal.{Refusal}
use Rattle.model.specs.declared.rule.Rule.{Rule}

-- lists as long as they have to be
pub record FullLengths (t : Tables) (f : FullResults) : Type 0 where
  pub lists_fit : RightLengths t f.results
  pub places_long : length f.places ≡ length t.amounts * length t.asks
  pub floors_long : length f.floors ≡ length t.asks

-- the cut, the margin and the lists of the truthful round
pub record FullyClears (rule : Rule) (t : Tables) (figures : Figures) (exit : FullResults) : Type 0 where
  pub cut_is : figures.cut.0 ≡ (outcome rule t).cut
  pub margin_is : figures.margin.0 ≡ (outcome rule t).margin
  pub left : exit ≡ full_results_of rule t

-- of `clear_marked_under`: the rule is known, so that the tables decide
unfoldable pub clearing_fully_under : (rule : Rule) (t : Tables) (entry : FullResults) → Promise (ℕ × ℕ) FullResults
clearing_fully_under rule t entry = record {
  faults = full_table_faults t entry;
  value = ((outcome rule t).cut, (outcome rule t).margin);
  leaves = full_results_of rule t;
}

abbrev pub ClearsFullyUnder :
    (rule : Rule) (t : Tables) (entry : FullResults) (answer : Result Figures Refusal) (exit : FullResults) → Type 0
ClearsFullyUnder rule t entry answer exit = Keeps (clearing_fully_under rule t) entry (answer_of_clearing answer) exit

-- of `mark_under`
unfoldable pub marking_under : (rule : Rule) (t : Tables) (s : Submission) (entry : Unit {0}) → Promise ℕ Unit
marking_under rule t s entry =
    record { faults = full_table_faults t s.lists; value = only (correct rule t s) 1; leaves = tt }

abbrev pub MarksUnder : (rule : Rule) (t : Tables) (s : Submission) (answer : Result Bool Refusal) → Type 0
MarksUnder rule t s answer = Keeps (marking_under rule t s) tt (answer_of_marking answer) tt
