-- What the clearing of an accepted market promises.
use Rattle.std.specs.Prelude.{◌≡◌}
use Rattle.model.specs.market.Outcome.{Results, Outcome}
use Rattle.model.specs.declared.answers.Figures.{Figures}

-- the figures and result lists of an accepted market that comes to this outcome
pub record ClearsAccepted (o : Outcome) (figures : Figures) (exit : Results) : Type 0 where
  pub cut_is : figures.cut.0 ≡ o.cut
  pub margin_is : figures.margin.0 ≡ o.margin
  pub left : exit ≡ o.results
