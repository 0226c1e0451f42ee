use mathlib.Core.Path.{◌≡◌, sym, ◌∙◌}
use native.Mathlib.Omega.{arith}
use lib.ListN.{length}
use Rattle.model.specs.Counting.{joined}
use Rattle.model.specs.sheet.Layout.{bytes_of}
use Rattle.sheet.specs.Laid.{bid_in, bid_fields}
use Rattle.sheet.proofs.writing.Bids.{all_fields}
use Rattle.sheet.proofs.writing.put_bids.Goals as goal

-- all bits are set where their count is that of the stations
pub put_all-requires : goal.put_all-requires
put_all-requires c =
    let row = c.args.row.now in
    let full : bid_fields (length row) (bid_in row) ≡ joined (length row) (λ j. bytes_of 4 (bid_in row j)) =
    all_fields _ _ c.requires.1 (omega (arith, c.requires.0)) (sym c.count.ensures ∙ c.if-count-row.true) in
    rw full at c.requires.2

pub returns-then-count-row : goal.returns-then-count-row
returns-then-count-row c =
    let row = c.args.row.now in
    let full : bid_fields (length row) (bid_in row) ≡ joined (length row) (λ j. bytes_of 4 (bid_in row j)) =
    all_fields _ _ c.requires.1 (omega (arith, c.requires.0)) (sym c.count.ensures ∙ c.if-count-row.true) in
    rw full c.put_all.ensures
