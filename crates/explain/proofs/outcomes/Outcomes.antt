-- Laws of guests' records.
use Prim.Native.Nat.{ℕ, ◌≤◌, ◌<◌}
use mathlib.Core.Logic.{⊎_elim}
use mathlib.Core.Path.{◌≡◌, refl, sym, ap}
use native.Mathlib.Omega.{arith}
use lib.ListN.{get_or}
use Rattle.model.specs.Limits.{max_guests}
use Rattle.model.specs.Counting.{only}
use Rattle.model.specs.Numbers.{station_of, charge_of, loss_of}
use Rattle.model.specs.declared.money.Mills.{Mills}
use Rattle.model.proofs.Tests.{is_eq, not_eq, eq_or_ne, is_lt}
use Rattle.explain.specs.Outcomes.{reason_of, record_of, mills, record_at}
use Rattle.explain.specs.declared.explained.OutcomeArrays.{OutcomeArrays}

-- ---- a record

-- what a record shows: a loss has no station and no charge, and its code is from 1 to 4
module _ (station : ℕ) (charge : Mills) (loss : ℕ) where
  pub station_shown : (0 < loss → station ≡ 0) → station_of (record_of station charge loss).result ≡ station
  unfolding record_of station_of
  station_shown h = ⊎_elim
      (λ (e : loss ≡ 0). rw (is_eq loss 0 e) refl)
      (λ (n : loss ≡ 0 → ⊥). rw (not_eq loss 0 n) (sym (h (omega arith))))
      (eq_or_ne loss 0)

  pub charge_shown : (0 < loss → charge.0 ≡ 0) → charge_of (record_of station charge loss).result ≡ charge.0
  unfolding record_of charge_of
  charge_shown h = ⊎_elim
      (λ (e : loss ≡ 0). rw (is_eq loss 0 e) refl)
      (λ (n : loss ≡ 0 → ⊥). rw (not_eq loss 0 n) (sym (h (omega arith))))
      (eq_or_ne loss 0)

  pub loss_shown : loss ≤ 4 → loss_of (record_of station charge loss).result ≡ loss
  unfolding record_of loss_of reason_of
  loss_shown h = ⊎_elim
      (λ (e : loss ≡ 0). rw (is_eq loss 0 e) (sym e))
      (λ (n : loss ≡ 0 → ⊥). rw (not_eq loss 0 n) (⊎_elim
      (λ (e : loss ≡ 1). rw (is_eq loss 1 e) (sym e))
      (λ (p : loss ≡ 1 → ⊥). rw (not_eq loss 1 p) (⊎_elim
      (λ (e : loss ≡ 2). rw (is_eq loss 2 e) (sym e))
      (λ (q : loss ≡ 2 → ⊥). rw (not_eq loss 2 q) (⊎_elim
      (λ (e : loss ≡ 3). rw (is_eq loss 3 e) (sym e))
      (λ (r : loss ≡ 3 → ⊥). rw (not_eq loss 3 r) (omega arith))
      (eq_or_ne loss 3)))
      (eq_or_ne loss 2)))
      (eq_or_ne loss 1)))
      (eq_or_ne loss 0)

-- ---- guest i's record

module _ (e : OutcomeArrays) (i : ℕ) where
  pub record_in :
      {charge : Mills} → i < max_guests → charge.0 ≡ get_or e.charges i 0
      → record_of (get_or e.stations i 0) charge (get_or e.reasons i 0) ≡ record_at e i
  unfolding record_at only
  record_in l q =
      rw (is_lt i max_guests l) (ap (λ (x : ℕ). record_of (get_or e.stations i 0) (mills x) (get_or e.reasons i 0)) q)
