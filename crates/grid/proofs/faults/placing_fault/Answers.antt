use mathlib.Core.Bool.{Bool}
use mathlib.Core.Path.{◌≡◌, sym, ◌∙◌}
use lib.ListN.{length}
use Rattle.model.specs.Limits.{max_guests, max_stations, max_price}
use Rattle.model.specs.Counting.{◌<?◌, ◌=?◌, ◌or◌, any}
use Rattle.model.specs.places.Bids.{Places}
use Rattle.model.specs.Numbers.{answer_of_verdict}
use Rattle.model.specs.market.Faults.{counts, outside}
use Rattle.model.specs.places.Faults.{place_lengths, place_values, placing_faults}
use Rattle.model.proofs.Verdicts.{fault_none, fault_here, fault_later}
use Rattle.model.proofs.market.Acceptance.{counted}
use Rattle.grid.proofs.faults.placing_fault.Goals as goal

-- the tests are of the places that are opened
counted_in :
    {p q : Places} {b d : Bool} → p ≡ q
    → b ≡ (max_guests <? length p.guest_first or length p.station_first =? 0 or max_stations <? length p.station_first)
    → b ≡ d
    → (max_guests <? length q.guest_first or length q.station_first =? 0 or max_stations <? length q.station_first) ≡ d
counted_in e h f = rw (← e) (sym h ∙ f)

priced_in :
    {p q : Places} {b d : Bool} → p ≡ q → b ≡ (any p.prices (outside 0 max_price) or any p.falls (outside 0 max_price))
    → b ≡ d → (any q.prices (outside 0 max_price) or any q.falls (outside 0 max_price)) ≡ d
priced_in e h f = rw (← e) (sym h ∙ f)

-- Each test is a row of the table, in its order.
pub returns-then-counts_out_of_range : goal.returns-then-counts_out_of_range
unfolding placing_faults counts answer_of_verdict
returns-then-counts_out_of_range c =
    sym (fault_here _ (counted_in c.places.view_is c.counts_out_of_range.ensures c.if-counts_out_of_range.true))

pub lengths_differ-requires : goal.lengths_differ-requires
lengths_differ-requires c =
    let k = counted _ _ (counted_in c.places.view_is c.counts_out_of_range.ensures c.if-counts_out_of_range.false) in
    (k.0, k.2)

pub returns-then-lengths_differ : goal.returns-then-lengths_differ
unfolding placing_faults counts place_lengths answer_of_verdict
returns-then-lengths_differ c =
    sym (fault_later _ _ (counted_in c.places.view_is c.counts_out_of_range.ensures c.if-counts_out_of_range.false)
    ∙ fault_here _ (sym c.lengths_differ.ensures ∙ c.if-lengths_differ.true))

pub returns-then-cells_off_grid : goal.returns-then-cells_off_grid
unfolding placing_faults counts place_lengths place_values answer_of_verdict
returns-then-cells_off_grid c =
    sym (fault_later _ _ (counted_in c.places.view_is c.counts_out_of_range.ensures c.if-counts_out_of_range.false)
    ∙ fault_later _ _ (sym c.lengths_differ.ensures ∙ c.if-lengths_differ.false)
    ∙ fault_here _ (sym c.cells_off_grid.ensures ∙ c.if-cells_off_grid.true))

pub returns-then-prices_out_of_range : goal.returns-then-prices_out_of_range
unfolding placing_faults counts place_lengths place_values answer_of_verdict
returns-then-prices_out_of_range c =
    sym (fault_later _ _ (counted_in c.places.view_is c.counts_out_of_range.ensures c.if-counts_out_of_range.false)
    ∙ fault_later _ _ (sym c.lengths_differ.ensures ∙ c.if-lengths_differ.false)
    ∙ fault_later _ _ (sym c.cells_off_grid.ensures ∙ c.if-cells_off_grid.false)
    ∙ fault_here _ (priced_in c.places.view_is c.prices_out_of_range.ensures c.if-prices_out_of_range.true))

pub returns : goal.returns
unfolding placing_faults counts place_lengths place_values answer_of_verdict
returns c =
    sym (fault_later _ _ (counted_in c.places.view_is c.counts_out_of_range.ensures c.if-counts_out_of_range.false)
    ∙ fault_later _ _ (sym c.lengths_differ.ensures ∙ c.if-lengths_differ.false)
    ∙ fault_later _ _ (sym c.cells_off_grid.ensures ∙ c.if-cells_off_grid.false)
    ∙ fault_later _ _ (priced_in c.places.view_is c.prices_out_of_range.ensures c.if-prices_out_of_range.false)
    ∙ fault_none)
