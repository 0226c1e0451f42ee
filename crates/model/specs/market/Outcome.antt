-- The clearing of lent tables, as lists and numbers. Document 01, end of 'Clearing'.
use Rattle.std.specs.Prelude.{ℕ, List}
use Rattle.model.specs.Counting.{list}
use Rattle.model.specs.market.Market.{Tables, market, Screened, screen}
use Rattle.model.specs.market.Mechanism.{Decision, charged, sold, paid, margin, truthful}
use Rattle.model.specs.market.Efficient.{efficient}
use Rattle.model.specs.declared.rule.Rule.{Rule}
use Rattle.model.specs.declared.mechanism.Mechanism.{Mechanism}
use Rattle.model.specs.declared.mechanism.Mechanism.TheVariants.{Truthful, Efficient}

-- the result lists: each guest's station (0 for none) and charge, each station's kWh sold and payment
pub record Results : Type 0 where
  pub stations : List ℕ
  pub charges : List ℕ
  pub sold : List ℕ
  pub paid : List ℕ

pub record Outcome : Type 0 where
  pub cut : ℕ
  pub margin : ℕ
  pub results : Results

abbrev pub results : (stations charges sold paid : List ℕ) → Results
results stations charges sold paid = record { stations = stations; charges = charges; sold = sold; paid = paid }

abbrev pub outcome_of : (cut margin : ℕ) (stations charges sold paid : List ℕ) → Outcome
outcome_of cut margin stations charges sold paid =
    record { cut = cut; margin = margin; results = results stations charges sold paid }

-- what a decision comes to
unfoldable pub outcome_by : Screened → Decision → Outcome
outcome_by S D = record {
  cut = S.cut;
  margin = margin S D;
  results = record {
    stations = list S.guest_count D.assigned;
    charges = list S.guest_count (charged S D);
    sold = list S.station_count (sold S D);
    paid = list S.station_count (paid S D);
  };
}

-- what document 01's mechanism sees and decides under a rule, and its outcome
unfoldable pub screened : Rule → Tables → Screened
screened rule t = screen (market rule t)

unfoldable pub decision : Rule → Tables → Decision
decision rule t = truthful (screened rule t)

unfoldable pub outcome : Rule → Tables → Outcome
outcome rule t = outcome_by (screened rule t) (decision rule t)

-- and of the efficient mechanism (document 02, request 4)
unfoldable pub efficient_decision : Rule → Tables → Decision
efficient_decision rule t = efficient (screened rule t)

unfoldable pub efficient_outcome : Rule → Tables → Outcome
efficient_outcome rule t = outcome_by (screened rule t) (efficient_decision rule t)

-- by the name of the mechanism
unfoldable pub outcome_in : Mechanism → Rule → Tables → Outcome
outcome_in Truthful = outcome
outcome_in Efficient = efficient_outcome
