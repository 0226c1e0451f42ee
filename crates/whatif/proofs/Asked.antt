-- A call that tries a row and is not refused.
use Prim.Native.Nat.{ℕ, ◌-◌, ◌≤◌}
use mathlib.Core.List.{List, ◌++◌}
use mathlib.Core.Logic.{inl}
use mathlib.Core.Path.{◌≡◌, refl, sym, ap₂}
use native.Mathlib.Omega.{arith}
use lib.IntN.{ℤ}
use lib.ListN.{length}
use Rattle.std.specs.Prelude.{Ok}
use Rattle.model.specs.Numbers.{answer_of_trying}
use Rattle.model.specs.Verdicts.{accepted, first_fault}
use Rattle.model.specs.market.Market.{Tables}
use Rattle.model.specs.market.Faults.{unknown_rule, market_faults}
use Rattle.model.specs.market.Changes.{try_faults, trying_faults, both_gains}
use Rattle.model.specs.claims.OtherRows.{TryingWithinLimits}
use Rattle.model.specs.declared.answers.Gains.{Gains}
use Rattle.model.specs.declared.rule.Rule.{Rule}
use Rattle.model.proofs.Promises.{keeps_accepted}
use Rattle.model.proofs.Verdicts.{fault_free}
use Rattle.model.proofs.market.Acceptance.{is_known}
use Rattle.model.proofs.market.Trying.{trying_within}
use Rattle.whatif.specs.Tried.{Triable, TriesAccepted, trying_under, TriesUnder}

module _ (t : Tables) (guest : ℕ) (worths row : List ℕ) (changes : ℕ)
    (e : accepted tt
    ≡ first_fault (market_faults t ++ try_faults (length t.amounts) (length t.asks) guest worths row changes)) where
  -- whichever rule is known
  within : TryingWithinLimits 1 t guest worths row changes
  unfolding trying_faults unknown_rule
  within = trying_within 1 t guest worths row changes (fault_free _ _ (is_known 1 (inl refl)) (sym e))

  pub guest_least : 1 ≤ guest
  guest_least = within.guest_least

  pub triable : Triable t (guest - 1) worths row changes
  triable = record {
    guest_below = omega (arith, within.guest_least, within.guest_most);
    worths_fit = within.worths_fit;
    row_fits = within.row_fits;
    changes_long = within.changes_long;
  }

pub accepted_tries :
    (rule : Rule) (t : Tables) (guest : ℕ) (worths row entry : List ℕ) (gains : Gains) {exit : List ℕ}
    → accepted tt
    ≡ first_fault (market_faults t ++ try_faults (length t.amounts) (length t.asks) guest worths row (length entry))
    → TriesAccepted rule t (guest - 1) worths row gains exit
    → TriesUnder rule t guest worths row entry (Ok gains) exit
unfolding trying_under both_gains answer_of_trying
accepted_tries rule t guest worths row entry gains e a =
    keeps_accepted (sym e) (ap₂ {C = ℤ × ℤ} (λ x y. (x, y)) a.first_is a.second_is) a.left
