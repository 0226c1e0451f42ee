-- No sheet is longer than the largest.
use Prim.Native.Nat.{ℕ, ◌≤◌}
use mathlib.Core.Bool.{Bool}
use native.Mathlib.Nat.{mul-le-mul_right}
use native.Mathlib.Omega.{arith}
use lib.ListN.{length}
use Rattle.model.specs.market.Market.{Tables}
use Rattle.model.specs.sheet.Fields.{map_width}
use Rattle.model.specs.Limits.{max_guests, max_stations, max_sheet}
use Rattle.model.specs.sheet.Layout.{layout, bidden, SheetsAreShort}
use Rattle.model.proofs.Counting.{sum_most, count_most}
use Rattle.model.proofs.market.Acceptance.{product_fits}
use Rattle.model.proofs.sheet.Lengths.{row_head, layout_length}

pub layout_short :
    (t : Tables) (set : ℕ → ℕ → Bool) → length t.amounts ≤ max_guests → length t.asks ≤ max_stations
    → length (layout t set) ≤ max_sheet
unfolding map_width
layout_short t set few narrow =
    omega (
      arith,
      layout_length t set,
      mul-le-mul_right (row_head (length t.asks)) few,
      sum_most (length t.amounts) (length t.asks) _ (λ i _. count_most (length t.asks) (set i)),
      product_fits _ _ few narrow,
    )

pub sheets_are_short : SheetsAreShort
sheets_are_short s t w =
    rw w.is (layout_short t (bidden t) w.fitting.shape.guests_most w.fitting.shape.stations_most)
