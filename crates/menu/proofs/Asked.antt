-- A guest's price list at its rule's cut, and calls for it and for gains that are not refused.
use Prim.Native.Nat.{ℕ, ◌-◌, ◌/◌, ◌≤◌}
use mathlib.Core.List.{List, ◌++◌}
use mathlib.Core.Logic.{inl}
use mathlib.Core.Path.{◌≡◌, refl, sym, ap, ◌∙◌}
use native.Mathlib.Nat.{mul-div_cancel}
use native.Mathlib.Omega.{arith}
use lib.IntN.{ℤ}
use lib.ListN.{get_or, length}
use Rattle.std.specs.Prelude.{Ok}
use Rattle.model.specs.Counting.{list}
use Rattle.model.specs.Numbers.{answer_of_verdict}
use Rattle.model.specs.Verdicts.{accepted, first_fault}
use Rattle.model.specs.market.Market.{Tables, market_by, market, cut, opens, screen}
use Rattle.model.specs.market.Faults.{unknown_rule, market_faults}
use Rattle.model.specs.market.Menus.{menu_of, PriceList, price_list, listed, price_list_by, gains_from, list_faults}
use Rattle.model.specs.market.Menus.{listing_faults, gain_faults, gaining_faults}
use Rattle.model.specs.market.Rules.{position}
use Rattle.model.specs.claims.Menus.{ListingWithinLimits, GainingWithinLimits}
use Rattle.model.specs.declared.rule.Rule.{Rule}
use Rattle.model.proofs.Promises.{keeps_accepted}
use Rattle.model.proofs.Verdicts.{fault_free}
use Rattle.model.proofs.market.Acceptance.{accepted_iff_within_limits, is_known}
use Rattle.model.proofs.claims.Menus.{listing_accepted_iff_within_limits, gaining_accepted_iff_within_limits}
use Rattle.pricing.specs.CutAsk.{cut_ask}
use Rattle.pricing.proofs.cut.CutAsk.{cut_is}
use Rattle.allocation.specs.Screens.{screened_at}
use Rattle.menu.specs.Accepted.{Listable, Gainable, listing_under, ListsUnder, gaining_under, GainsUnder}
use Rattle.menu.specs.Listing.{bar_at, price_at}

pub listed_at_cut :
    (rule : Rule) (t : Tables) (i : ℕ) {c : ℕ} {bars prices : List ℕ} → c ≡ cut_ask rule t.asks
    → (bars ≡ list (length t.asks) (bar_at t c i)) × (prices ≡ list (length t.asks) (price_at t c i))
    → price_list bars prices ≡ price_list_by (position rule) t i
unfolding price_list_by listed menu_of bar_at price_at opens screen screened_at market_by market
listed_at_cut rule t i {c} e (hb, hp) =
    let here : c ≡ cut (market rule t) = e ∙ cut_is rule t in
    let bars = hb ∙ ap (λ c. list (length t.asks) (bar_at t c i)) here in
    let prices = hp ∙ ap (λ c. list (length t.asks) (price_at t c i)) here in
    λ x. record { bars = bars x; prices = prices x }

-- ---- a price list

module _ (t : Tables) (guest : ℕ) (entry : PriceList)
    (e : accepted tt ≡ first_fault (market_faults t
    ++ list_faults (length t.amounts) (length t.asks) guest (length entry.bars) (length entry.prices))) where
  -- whichever rule is known
  listed_within : ListingWithinLimits 1 t guest (length entry.bars) (length entry.prices)
  unfolding listing_faults unknown_rule
  listed_within =
      (listing_accepted_iff_within_limits 1 t guest _ _).0 (fault_free _ _ (is_known 1 (inl refl)) (sym e))

  pub listed_guest_least : 1 ≤ guest
  listed_guest_least = listed_within.guest_least

  pub listable : Listable t (guest - 1) entry
  listable = record {
    guest_below = omega (arith, listed_within.guest_least, listed_within.guest_most);
    bars_long = listed_within.bars_long;
    prices_long = listed_within.prices_long;
  }

  pub accepted_lists :
      (rule : Rule) {exit : PriceList} → exit ≡ price_list_by (position rule) t (guest - 1)
      → ListsUnder rule t guest entry (Ok tt) exit
  unfolding answer_of_verdict listing_under
  accepted_lists rule h = keeps_accepted (sym e) refl h

-- ---- gains

module _ (t : Tables) (guest : ℕ) (worths rows : List ℕ) (entry : List ℤ)
    (e : accepted tt ≡ first_fault (market_faults t
    ++ gain_faults (length t.amounts) (length t.asks) guest worths rows (length entry))) where
  gained_within : GainingWithinLimits 1 t guest worths rows (length entry)
  unfolding gaining_faults unknown_rule
  gained_within =
      (gaining_accepted_iff_within_limits 1 t guest worths rows _).0 (fault_free _ _ (is_known 1 (inl refl)) (sym e))

  pub gained_guest_least : 1 ≤ guest
  gained_guest_least = gained_within.guest_least

  pub gainable : Gainable t (guest - 1) worths rows (length entry)
  gainable = record {
    guest_below = omega (arith, gained_within.guest_least, gained_within.guest_most);
    worths_fit = gained_within.worths_fit;
    rows_fit = gained_within.rows_fit;
  }

  -- as many gains as there are rows
  row_count : length entry ≡ length rows / length t.asks
  row_count =
      let some = ((accepted_iff_within_limits t).0 gained_within.market_accepted).shape.stations_least in
      sym (ap (λ x. x / length t.asks) gained_within.rows_fit.rows_length ∙ mul-div_cancel (length entry) some)

  pub accepted_gains :
      (rule : Rule) {exit : List ℤ}
      → exit ≡ gains_from (price_list_by (position rule) t (guest - 1)) (get_or t.amounts (guest - 1) 0) worths
      (length t.asks) rows (length entry)
      → GainsUnder rule t guest worths rows entry (Ok tt) exit
  unfolding answer_of_verdict gaining_under
  accepted_gains rule h = keeps_accepted (sym e) refl
      (h ∙ ap (gains_from (price_list_by (position rule) t (guest - 1)) (get_or t.amounts (guest - 1) 0) worths
      (length t.asks) rows) row_count)
