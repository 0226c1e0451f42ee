-- What is asked and promised of a price list and of gains under a known rule, and in an accepted market.
use Rattle.std.specs.Prelude.{ℕ, ◌-◌, ◌/◌, ◌<◌, List, ◌++◌, ◌≡◌, ℤ, get_or, length, Result}
use Rattle.model.specs.Numbers.{answer_of_verdict}
use Rattle.model.specs.Promises.{Promise, Keeps}
use Rattle.model.specs.market.Market.{Tables}
use Rattle.model.specs.market.Faults.{market_faults}
use Rattle.model.specs.market.Menus.{PriceList, price_list_by, gains_from, list_faults, gain_faults}
use Rattle.model.specs.market.Rules.{position}
use Rattle.model.specs.claims.Menus.{RowsFit}
use Rattle.model.specs.claims.OtherRows.{RowFits}
use Rattle.model.specs.declared.refusal.Refusal.{Refusal}
use Rattle.model.specs.declared.rule.Rule.{Rule}

-- guests count from 0
pub record Listable (t : Tables) (i : ℕ) (lent : PriceList) : Type 0 where
  pub guest_below : i < length t.amounts
  pub bars_long : length lent.bars ≡ length t.asks
  pub prices_long : length lent.prices ≡ length t.asks

pub record Gainable (t : Tables) (i : ℕ) (worths rows : List ℕ) (gains : ℕ) : Type 0 where
  pub guest_below : i < length t.amounts
  pub worths_fit : RowFits t worths
  pub rows_fit : RowsFit t rows gains

-- under a known rule, of a guest that is named from 1 on
unfoldable pub listing_under : (rule : Rule) (t : Tables) (guest : ℕ) (entry : PriceList) → Promise Unit PriceList
listing_under rule t guest entry = record {
  faults = market_faults t
      ++ list_faults (length t.amounts) (length t.asks) guest (length entry.bars) (length entry.prices);
  value = tt;
  leaves = price_list_by (position rule) t (guest - 1);
}

abbrev pub ListsUnder :
    (rule : Rule) (t : Tables) (guest : ℕ) (entry : PriceList) (answer : Result Unit Refusal)
    (exit : PriceList) → Type 0
ListsUnder rule t guest entry answer exit = Keeps (listing_under rule t guest) entry (answer_of_verdict answer) exit

unfoldable pub gaining_under :
    (rule : Rule) (t : Tables) (guest : ℕ) (worths rows : List ℕ) (entry : List ℤ) → Promise Unit (List ℤ)
gaining_under rule t guest worths rows entry = record {
  faults = market_faults t ++ gain_faults (length t.amounts) (length t.asks) guest worths rows (length entry);
  value = tt;
  leaves = gains_from (price_list_by (position rule) t (guest - 1)) (get_or t.amounts (guest - 1) 0) worths
      (length t.asks) rows (length rows / length t.asks);
}

abbrev pub GainsUnder : (rule : Rule) (t : Tables) (guest : ℕ) (worths rows : List ℕ) (entry : List ℤ)
    (answer : Result Unit Refusal) (exit : List ℤ) → Type 0
GainsUnder rule t guest worths rows entry answer exit =
    Keeps (gaining_under rule t guest worths rows) entry (answer_of_verdict answer) exit
