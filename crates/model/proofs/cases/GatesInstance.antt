-- Two gates joined: the theorems at numbers, and the numbers by computation.
use Prim.Native.Nat.{ℕ, zero, suc, ◌<◌}
use mathlib.Core.List.{[], ◌∷◌}
use mathlib.Core.Path.{◌≡◌, refl}
use native.Mathlib.Omega.{arith}
use lib.ListN.{get_or}
use Rattle.model.specs.market.Rules.{median}
use Rattle.model.specs.market.Gates.{Joinable}
use Rattle.model.specs.cases.Cases.{pair, case_e}
use Rattle.model.specs.cases.Gates.{gate, GatesInstance}
use Rattle.model.proofs.cases.Computing.{clearing_computes}
use Rattle.model.proofs.claims.Gates.{together_accepted, joining_gives_no_place}

gates_joinable : Joinable (gate 1) (gate 2)
unfolding gate
gates_joinable = record {
  same_asks = refl;
  same_bays = refl;
  guests_most = omega arith;
  tickets_apart = apart;
}
  where
    apart : (i k : ℕ) → i < 1 → k < 1 → ◌≡◌ {A = ℕ} (get_or (1 ∷ []) i 0) (get_or (2 ∷ []) k 0) → ⊥
    apart zero zero li lk e = omega arith
    apart zero (suc k) li lk e = omega arith
    apart (suc i) k li lk e = omega arith

first_of_two : 0 < 2
first_of_two = omega arith

pub gates_instance : GatesInstance
unfolding clearing_computes pair case_e gate
gates_instance = record {
  joinable = gates_joinable;
  together_is = refl;
  accepts = together_accepted (gate 1) (gate 2) refl refl gates_joinable;
  gives = joining_gives_no_place median (gate 1) (gate 2) refl refl gates_joinable 0 first_of_two;
  first_held = refl;
  second_held = refl;
  own_charge_is = refl;
  joined_first_held = refl;
  joined_second_lost = refl;
  joined_charge_is = refl;
}
