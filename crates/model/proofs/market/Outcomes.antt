-- Outcomes of decisions that assign only candidates: document 01's, the efficient one, and that of a stable assignment.
use Prim.Native.Nat.{ℕ, zero, suc, ◌≤◌, ◌<◌}
use mathlib.Core.Path.{◌≡◌, refl, sym}
use native.Mathlib.Omega.{arith}
use Rattle.model.specs.Limits.{max_stations}
use Rattle.model.specs.market.Market.{Screened}
use Rattle.model.specs.market.Mechanism.{Decision, truthful}
use Rattle.model.specs.market.Stable.{Stable}
use Rattle.model.specs.market.Efficient.{efficient}
use Rattle.model.specs.market.Outcome.{Outcome, outcome_by}
use Rattle.model.specs.claims.Efficient.{decided_by}
use Rattle.model.proofs.market.Decisions.{Candidates}
use Rattle.model.proofs.market.Truthful.{Keys, truthful_candidates}
use Rattle.model.proofs.market.Efficient.{efficient_candidates, outcome_of_stable}

pub record ComesOf (S : Screened) (D : Decision) (o : Outcome) : Type 0 where
  pub candidates : Candidates S D
  pub outcome_is : o ≡ outcome_by S D

-- guests are assigned to numbers of stations
pub numbered :
    {S : Screened} {D : Decision} {o : Outcome} → ComesOf S D o → S.station_count ≤ max_stations → (i : ℕ)
    → i < S.guest_count → D.assigned i ≤ max_stations
numbered {S} {D} c m i li = go (D.assigned i) refl
  where
    go : (s : ℕ) → D.assigned i ≡ s → s ≤ max_stations
    go zero e = omega arith
    go (suc j) e = omega (arith, (c.candidates i j li e).0, m)

pub of_truthful : (S : Screened) → ComesOf S (truthful S) (outcome_by S (truthful S))
of_truthful S = record { candidates = truthful_candidates S; outcome_is = refl }

pub of_efficient : (S : Screened) → ComesOf S (efficient S) (outcome_by S (efficient S))
of_efficient S = record { candidates = efficient_candidates S; outcome_is = refl }

pub of_stable :
    (S : Screened) (a : ℕ → ℕ) → Keys S.key S.guest_count → Stable S a
    → ComesOf S (decided_by S a) (outcome_by S (efficient S))
of_stable S a K T = record { candidates = T.candidates; outcome_is = sym (outcome_of_stable S K a T) }
