-- A call that tries a row is accepted exactly within the limits that request 11 names.
use Prim.Native.Nat.{ℕ}
use mathlib.Core.List.{List}
use mathlib.Core.Path.{◌≡◌, ◌∙◌}
use native.Mathlib.Omega.{arith}
use Rattle.model.specs.Limits.{max_price}
use Rattle.model.specs.Verdicts.{accepted, first_fault}
use Rattle.model.specs.market.Market.{Tables}
use Rattle.model.specs.market.Faults.{unknown_rule, market_faults, verdict}
use Rattle.model.specs.market.Changes.{try_faults, trying_faults}
use Rattle.model.specs.claims.OtherRows.{TryingWithinLimits, TryingAcceptedIffWithinLimits}
use Rattle.model.proofs.Tests.{or_no, neither, lt_no, not_lt, eq_no, not_eq}
use Rattle.model.proofs.Counting.{none_any}
use Rattle.model.proofs.Verdicts.{fault_none, no_fault, no_faults, fault_second, fault_free}
use Rattle.model.proofs.market.Acceptance.{equal, not_unequal, all_inside, not_outside, known, is_known}

module _ (rule : ℕ) (t : Tables) (guest : ℕ) (worths row : List ℕ) (changes : ℕ) where
  pub trying_within :
      first_fault (trying_faults rule t guest worths row changes) ≡ accepted tt
      → TryingWithinLimits rule t guest worths row changes
  unfolding trying_faults try_faults unknown_rule verdict
  trying_within e =
      let (names, e1) = no_fault _ _ _ e in
      let (market, e2) = no_faults (market_faults t) _ e1 in
      let (guests, e3) = no_fault _ _ _ e2 in
      let (lists, e4) = no_fault _ _ _ e3 in
      let (lent, e5) = no_fault _ _ _ e4 in
      let (prices, e6) = no_fault _ _ _ e5 in
      let (none, over) = or_no _ _ guests in
      let (worth_list, row_list) = or_no _ _ lists in
      let (worth_prices, row_prices) = or_no _ _ prices in
      record {
        rule_known = known rule names;
        market_accepted = market;
        guest_least = omega (arith, eq_no _ _ none);
        guest_most = lt_no _ _ over;
        worths_fit = record {
          row_length = equal _ _ worth_list;
          row_most = λ j lj. (all_inside 0 max_price worths worth_prices j lj).1;
        };
        row_fits = record {
          row_length = equal _ _ row_list;
          row_most = λ j lj. (all_inside 0 max_price row row_prices j lj).1;
        };
        changes_long = equal _ _ lent;
      }

  pub trying_accept :
      TryingWithinLimits rule t guest worths row changes
      → first_fault (trying_faults rule t guest worths row changes) ≡ accepted tt
  unfolding trying_faults try_faults unknown_rule verdict
  trying_accept w =
      fault_free _ _ (is_known rule w.rule_known) (fault_second (market_faults t) _ w.market_accepted
      ∙ fault_free _ _ (neither
      (not_eq guest 0 (λ q. omega (arith, w.guest_least))) (not_lt _ _ w.guest_most))
      (fault_free _ _ (neither
      (not_unequal _ _ w.worths_fit.row_length) (not_unequal _ _ w.row_fits.row_length))
      (fault_free _ _ (not_unequal _ _ w.changes_long)
      (fault_free _ _ (neither
      (none_any worths _ (λ j lj. not_outside 0 max_price _ (omega arith) (w.worths_fit.row_most j lj)))
      (none_any row _ (λ j lj. not_outside 0 max_price _ (omega arith) (w.row_fits.row_most j lj))))
      fault_none))))

pub trying_accepted_iff_within_limits : TryingAcceptedIffWithinLimits
trying_accepted_iff_within_limits rule t guest worths row changes =
    (trying_within rule t guest worths row changes, trying_accept rule t guest worths row changes)
