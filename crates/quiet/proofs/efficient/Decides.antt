-- After the last guest was served: a stable assignment is a decision in lists.
use Rattle.std.proofs.Common.{ℕ, suc, List, refl, ◌∙◌, arith}
use Rattle.model.specs.market.Market.{Tables}
use Rattle.model.specs.market.Mechanism.{at}
use Rattle.model.specs.claims.Meaning.{WithinLimits}
use Rattle.model.specs.claims.Efficient.{decided_by}
use Rattle.model.proofs.Tests.{only_yes, is_lt}
use Rattle.model.proofs.Loops.{long, element, is_list}
use Rattle.allocation.specs.Screens.{screened_at}
use Rattle.allocation.proofs.assignment.Assignment.{Decided}
use Rattle.quiet.specs.Efficient.{of, StablyAssigned}

pub stably :
    (t : Tables) {c : ℕ} {chosen criticals : List ℕ} → WithinLimits t → StablyAssigned t c chosen criticals
    → Decided t (decided_by (screened_at t c) (of chosen)) chosen criticals
unfolding at
stably t w s = record {
  chosen_are = is_list _ _ _ s.chosen_long (λ _ _. refl);
  criticals_long = omega (arith, long _ _ s.criticals_are);
  criticals_are = λ j l. element _ _ s.criticals_are (suc j) (omega (arith, w.shape.stations_most))
      ∙ only_yes _ _ (is_lt _ _ (omega arith));
}
