-- A posting, and what it adds to each account where it is posted.
use Rattle.std.specs.Prelude.{ℕ, length}
use Rattle.model.specs.Counting.{◌<?◌, ◌=?◌, only}
use Rattle.model.specs.market.Market.{Tables, Screened}
use Rattle.model.specs.market.Rules.{rule_of}
use Rattle.model.specs.market.Mechanism.{Decision, charged, sold, paid, margin}
use Rattle.model.specs.market.Outcome.{screened, decision}

-- a posting's arguments: the number of a rule, as it was given, a market, well formed or not, the number of a desk, as
-- it was given, and a round number
pub record Posting : Type 0 where
  pub rule : ℕ
  pub tables : Tables
  pub desk : ℕ
  pub round : ℕ

abbrev pub posting : (rule : ℕ) → Tables → (desk round : ℕ) → Posting
posting rule t desk round = record { rule = rule; tables = t; desk = desk; round = round }

-- what is seen and decided under its rule
abbrev pub screened_of : Posting → Screened
screened_of p = screened (rule_of p.rule) p.tables

abbrev pub decision_of : Posting → Decision
decision_of p = decision (rule_of p.rule) p.tables

-- what a posted round adds to guest i's account, to station j's and to the house's
unfoldable pub to_guest : ℕ → Posting → ℕ
to_guest i p = only (i <? length p.tables.amounts) (charged (screened_of p) (decision_of p) i)

unfoldable pub to_sold : ℕ → Posting → ℕ
to_sold j p = only (j <? length p.tables.asks) (sold (screened_of p) (decision_of p) j)

unfoldable pub to_paid : ℕ → Posting → ℕ
to_paid j p = only (j <? length p.tables.asks) (paid (screened_of p) (decision_of p) j)

unfoldable pub to_house : Posting → ℕ
to_house p = margin (screened_of p) (decision_of p)

-- and to the count of desk d's rounds
unfoldable pub to_desk : ℕ → Posting → ℕ
to_desk d p = only (p.desk =? d) 1
