use mathlib.Core.Path.{◌≡◌, sym, ◌∙◌}
use native.Mathlib.Omega.{arith}
use lib.ListN.{length}
use Rattle.model.specs.Counting.{count}
use Rattle.model.specs.sheet.Fields.{has_bit}
use Rattle.model.proofs.sheet.Fields.{count_narrow}
use Rattle.sheet.proofs.filling.Bids.{all_set}
use Rattle.sheet.proofs.filling.fill_row.Goals as goal

-- all bits are set where their count is that of the stations
pub fill_all-requires : goal.fill_all-requires
fill_all-requires c =
    let m = length c.args.row.now in
    let full : count m (has_bit c.args.map) ≡ m =
    sym (count_narrow m c.args.map (omega arith) c.requires.1) ∙ sym c.count.ensures ∙ c.if-count-row.true in
    omega (arith, full)

pub returns-then-count-row : goal.returns-then-count-row
returns-then-count-row c =
    let m = length c.args.row.now in
    let full : count m (has_bit c.args.map) ≡ m =
    sym (count_narrow m c.args.map (omega arith) c.requires.1) ∙ sym c.count.ensures ∙ c.if-count-row.true in
    all_set c.args.map full c.fill_all.ensures
