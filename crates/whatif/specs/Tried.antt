-- What is asked of a row that is tried, and promised of it, in an accepted market.
use Rattle.std.specs.Prelude.{ℕ, ◌-◌, ◌<◌, List, ◌++◌, ◌≡◌, ℤ, length, Result}
use Rattle.model.specs.Numbers.{answer_of_trying}
use Rattle.model.specs.Promises.{Promise, Keeps}
use Rattle.model.specs.market.Market.{Tables}
use Rattle.model.specs.market.Changes.{with_row, gain, changes_with, try_faults, both_gains}
use Rattle.model.specs.market.Faults.{market_faults}
use Rattle.model.specs.claims.OtherRows.{RowFits}
use Rattle.model.specs.declared.answers.Gains.{Gains}
use Rattle.model.specs.declared.refusal.Refusal.{Refusal}
use Rattle.model.specs.declared.rule.Rule.{Rule}

-- guests count from 0; the list of changes is so long
pub record Triable (t : Tables) (i : ℕ) (worths row : List ℕ) (changes : ℕ) : Type 0 where
  pub guest_below : i < length t.amounts
  pub worths_fit : RowFits t worths
  pub row_fits : RowFits t row
  pub changes_long : changes ≡ length t.amounts

pub record TriesAccepted (rule : Rule) (t : Tables) (i : ℕ) (worths row : List ℕ) (gains : Gains)
    (exit : List ℕ) : Type 0 where
  pub first_is : gains.first ≡ gain rule t i worths
  pub second_is : gains.second ≡ gain rule (with_row t i row) i worths
  pub left : exit ≡ changes_with rule t i row

-- under a known rule, of a guest that is named from 1 on: the market and the row decide
unfoldable pub trying_under :
    (rule : Rule) (t : Tables) (guest : ℕ) (worths row : List ℕ) (entry : List ℕ) → Promise (ℤ × ℤ) (List ℕ)
trying_under rule t guest worths row entry = record {
  faults = market_faults t ++ try_faults (length t.amounts) (length t.asks) guest worths row (length entry);
  value = both_gains rule t guest worths row;
  leaves = changes_with rule t (guest - 1) row;
}

abbrev pub TriesUnder : (rule : Rule) (t : Tables) (guest : ℕ) (worths row : List ℕ) (entry : List ℕ)
    (answer : Result Gains Refusal) (exit : List ℕ) → Type 0
TriesUnder rule t guest worths row entry answer exit =
    Keeps (trying_under rule t guest worths row) entry (answer_of_trying answer) exit
