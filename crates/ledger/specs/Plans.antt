-- The round of a market, or why there is none.
use Rattle.std.specs.Prelude.{ℕ, ◌∷◌, ◌≡◌, length, Result, Ok, Err}
use Rattle.model.specs.Limits.{max_guests, max_stations}
use Rattle.model.specs.Counting.{list}
use Rattle.model.specs.Numbers.{number}
use Rattle.model.specs.market.Market.{Tables}
use Rattle.model.specs.market.Faults.{unknown_rule, market_faults}
use Rattle.model.specs.market.Rules.{named}
use Rattle.model.specs.Verdicts.{Answer, accepted, refused, first_fault, giving}
use Rattle.model.specs.declared.refusal.Refusal.{Refusal}
use Rattle.model.specs.declared.rule.Rule.{Rule}
use Rattle.ledger.specs.declared.round.Round.{Round}
use Rattle.model.specs.book.Posting.{Posting, posting, to_guest, to_sold, to_paid, to_house}

-- the round that adds what p's market clears to under its rule
unfoldable pub adding : Posting → Round
adding p = record {
  charges = list max_guests (λ i. to_guest i p);
  sold = list max_stations (λ j. to_sold j p);
  paid = list max_stations (λ j. to_paid j p);
  margin = record { 0 = to_house p };
  guests = length p.tables.amounts;
  stations = length p.tables.asks;
}

-- of a plan: the round
unfoldable pub answer_of_plan : Result Round Refusal → Answer Round
answer_of_plan (Ok r) = accepted r
answer_of_plan (Err x) = refused (number x)

-- the plan for a market under the rule of a number; its desk and its own number come later
pub record Planned (rule : ℕ) (t : Tables) (plan : Result Round Refusal) : Type 0 where
  pub planned :
      answer_of_plan plan
      ≡ giving (first_fault (unknown_rule rule ∷ market_faults t)) (adding (posting rule t 0 0))

-- under a rule that is known: of each number that names it
abbrev pub PlannedUnder : Rule → Tables → Result Round Refusal → Type 0
PlannedUnder rule t plan = (k : ℕ) → named k ≡ Ok rule → Planned k t plan
