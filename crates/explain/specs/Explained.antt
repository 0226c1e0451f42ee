-- What is told of a market, by its verdict. Nothing that the export promises depends on this file.
use Rattle.std.specs.Prelude.{ℕ, List, [], ◌∷◌, ◌≡◌, length, take, Result, Ok, Err}
use Rattle.model.specs.Numbers.{number}
use Rattle.model.specs.Promises.{Promise, Keeps}
use Rattle.model.specs.Verdicts.{Answer, accepted, refused}
use Rattle.model.specs.market.Market.{Tables}
use Rattle.model.specs.market.Faults.{explained_faults, explaining_faults}
use Rattle.model.specs.market.Reasons.{codes, OutcomeTable, outcome_table, guest_outcomes}
use Rattle.model.specs.market.Rules.{rule_of}
use Rattle.model.specs.declared.refusal.Refusal.{Refusal}
use Rattle.model.specs.declared.rule.Rule.{Rule}
use Rattle.explain.specs.declared.explained.OutcomeArrays.{OutcomeArrays}

-- the code table and the outcomes of an accepted market
pub record ExplainsAccepted (rule : Rule) (t : Tables) (table stations charges reasons : List ℕ) : Type 0 where
  pub codes_are : table ≡ codes rule t
  pub outcomes_are : outcome_table stations charges reasons ≡ guest_outcomes rule t

-- what is told of the guests that there are
unfoldable pub told_by : OutcomeArrays → OutcomeTable
told_by e = outcome_table (take e.guests e.stations) (take e.guests e.charges) (take e.guests e.reasons)

-- how many guests there are, and what is told of them
unfoldable pub answer_of_explaining : Result OutcomeArrays Refusal → Answer (ℕ × OutcomeTable)
answer_of_explaining (Ok e) = accepted (e.guests, told_by e)
answer_of_explaining (Err r) = refused (number r)

-- under a rule, and under the rule of a number, for an outcome table of so many places: that, and the code table
unfoldable pub telling_under :
    (rule : Rule) (t : Tables) (outcomes : ℕ) (entry : List ℕ) → Promise (ℕ × OutcomeTable) (List ℕ)
telling_under rule t outcomes entry = record {
  faults = explained_faults t (length entry) (outcomes ∷ []);
  value = (length t.amounts, guest_outcomes rule t);
  leaves = codes rule t;
}

abbrev pub ExplainedUnder :
    (rule : Rule) (t : Tables) (outcomes : ℕ) (entry : List ℕ) (answer : Result OutcomeArrays Refusal)
    (exit : List ℕ) → Type 0
ExplainedUnder rule t outcomes entry answer exit =
    Keeps (telling_under rule t outcomes) entry (answer_of_explaining answer) exit

unfoldable pub telling :
    (rule : ℕ) (t : Tables) (outcomes : ℕ) (entry : List ℕ) → Promise (ℕ × OutcomeTable) (List ℕ)
telling rule t outcomes entry = record {
  faults = explaining_faults rule t (length entry) (outcomes ∷ []);
  value = (length t.amounts, guest_outcomes (rule_of rule) t);
  leaves = codes (rule_of rule) t;
}

abbrev pub ExplainedBy :
    (rule : ℕ) (t : Tables) (outcomes : ℕ) (entry : List ℕ) (answer : Result OutcomeArrays Refusal)
    (exit : List ℕ) → Type 0
ExplainedBy rule t outcomes entry answer exit =
    Keeps (telling rule t outcomes) entry (answer_of_explaining answer) exit
