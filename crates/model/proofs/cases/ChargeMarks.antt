-- Worked places: the theorem at numbers, and the numbers by computation.
use Prim.Native.Nat.{ℕ, zero, suc, ◌<◌}
use mathlib.Core.Bool.{Bool}
use mathlib.Core.List.{List, [], ◌∷◌, map}
use mathlib.Core.Path.{◌≡◌, refl}
use native.Mathlib.Omega.{arith}
use lib.ListN.{get_or, length}
use Rattle.model.specs.market.Market.{Tables, first_out}
use Rattle.model.specs.market.Faults.{Accepted}
use Rattle.model.specs.market.Rules.{position}
use Rattle.model.specs.market.Changes.{with_bid, bid_table, bids_with_row, row_with_bid}
use Rattle.model.specs.claims.Truth.{holds_by, HoldsPlace, charge_at}
use Rattle.model.specs.claims.ChargeMarks.{critical_at}
use Rattle.model.specs.declared.rule.Rule.{Rule}
use Rattle.model.specs.cases.Cases.{table_i}
use Rattle.model.specs.cases.ChargeMarks.{ChargeInstance, contest, earlier, later, uneven, ChargeInstances}
use Rattle.model.proofs.cases.Computing.{clearing_computes}
use Rattle.model.proofs.claims.ChargeMarks.{charge_marks_place_under}

module _ {rule : Rule} {t : Tables} {i j charge critical : ℕ} {bids : List ℕ} {kept : List Bool} where
  worked :
      Accepted t → i < length t.amounts → j < length t.asks → HoldsPlace (position rule) t i j
      → charge_at (position rule) t i j ≡ charge → critical_at (position rule) t j ≡ critical
      → map (λ bid. holds_by (position rule) (with_bid t i j bid) i j) bids ≡ kept
      → ChargeInstance rule t i j charge critical bids kept
  worked a li lj h c f k = record {
    held = h;
    charge_is = c;
    critical_is = f;
    kept_are = k;
    marks = λ bid most. charge_marks_place_under rule t i j bid a li lj h most;
  }

-- of the tickets 9 and 4 none is above 9
none_higher : (k : ℕ) → 9 < get_or (9 ∷ 4 ∷ []) k 0 → ⊥
none_higher zero l = omega arith
none_higher (suc zero) l = omega arith
none_higher (suc (suc k)) l = omega arith

pub charge_instances : ChargeInstances
unfolding clearing_computes table_i contest earlier later uneven bid_table bids_with_row row_with_bid first_out
charge_instances = record {
  replaced_is = refl;
  lower_ticket = worked refl (omega arith) (omega arith) refl refl refl refl;
  is_lower = (1, omega arith, refl, omega arith);
  higher_ticket = worked refl (omega arith) (omega arith) refl refl refl refl;
  is_higher = λ (k, _, _, l). none_higher k l;
  lower_critical = worked refl (omega arith) (omega arith) refl refl refl refl;
  is_higher_too = λ (k, _, _, l). none_higher k l;
  assigned_to_2 = refl;
  not_assigned = worked refl (omega arith) (omega arith) refl refl refl refl;
  under_rule_2 = worked refl (omega arith) (omega arith) refl refl refl refl;
}
