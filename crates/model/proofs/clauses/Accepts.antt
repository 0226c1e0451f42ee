-- What an accepted call of `clear` gives.
use Prim.Native.Nat.{ℕ}
use mathlib.Core.Path.{◌≡◌}
use Rattle.model.specs.Verdicts.{accepted, first_fault}
use Rattle.model.specs.market.Market.{Tables}
use Rattle.model.specs.market.Outcome.{Results}
use Rattle.model.specs.market.Faults.{table_faults, clearing_faults}
use Rattle.model.specs.claims.Meaning.{WithinLimits, RightLengths}
use Rattle.model.proofs.market.Acceptance.{accepted_iff_within_limits, call_accepted_iff_within_limits}
use Rattle.model.proofs.market.Acceptance.{tables_within}

-- no fault: a market within the limits, and result lists of the right lengths
pub record Accepts (t : Tables) (r : Results) : Type 0 where
  pub within : WithinLimits t
  pub fits : RightLengths t r

pub accepts : (t : Tables) (r : Results) → first_fault (table_faults t r) ≡ accepted tt → Accepts t r
accepts t r e =
    let (market, lists) = tables_within t r e in
    record { within = (accepted_iff_within_limits t).0 market; fits = lists }

pub accepted_call :
    (rule : ℕ) (t : Tables) (r : Results) → first_fault (clearing_faults rule t r) ≡ accepted tt → Accepts t r
accepted_call rule t r e =
    let w = (call_accepted_iff_within_limits rule t r).0 e in
    record { within = (accepted_iff_within_limits t).0 w.market_accepted; fits = w.lists_fit }
