-- What a call of `explain` shows of places and charges, by the position of the cut that the named rule has.
use Prim.Native.Nat.{ℕ, suc, ◌<◌}
use mathlib.Core.Logic.{◌↔◌}
use mathlib.Core.Path.{◌≡◌, sym, ap, ◌∙◌}
use lib.ListN.{get_or, length}
use Rattle.model.specs.market.Market.{Tables, market}
use Rattle.model.specs.market.Outcome.{screened, decision}
use Rattle.model.specs.market.Rules.{position, rule_of}
use Rattle.model.specs.claims.Truth.{HoldsPlace, charge_at}
use Rattle.model.specs.claims.Reasons.{ExplainedCall, code_in}
use Rattle.model.proofs.claims.Reasons.{station_at, outcomes_here, codes_tell_facts_calls}
use Rattle.model.proofs.claims.Reasons.{outcomes_tell_wins_and_losses_calls}

module _ (rule : ℕ) (t : Tables) (e : ExplainedCall rule t) (i j : ℕ) (li : i < length t.amounts) where
  -- code 0 is a place held
  pub place_shown : j < length t.asks → (code_in t e.exit i j ≡ 0) ↔ HoldsPlace (position (rule_of rule)) t i j
  unfolding screened market
  place_shown lj = (codes_tell_facts_calls rule t e i j li lj).place_held

  -- whoever wins is charged the charge there
  pub charge_shown :
      get_or e.exit.outcomes.stations i 0 ≡ suc j
      → get_or e.exit.outcomes.charges i 0 ≡ charge_at (position (rule_of rule)) t i j
  unfolding screened market decision
  charge_shown s =
      ((outcomes_tell_wins_and_losses_calls rule t e i li).won j
      (sym (station_at (rule_of rule) t i li) ∙ sym (ap (λ o. get_or o.stations i 0) (outcomes_here rule t e)) ∙ s)).1
