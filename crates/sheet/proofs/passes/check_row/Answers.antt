use mathlib.Core.Path.{ap}
use native.Mathlib.Omega.{arith}
use lib.ListN.{length}
use Rattle.std.proofs.lemmas.Result.{err_from_is_err_and}
use Rattle.model.proofs.sheet.Rows.{head_ends, map_ends, bids_at_lem}
use Rattle.sheet.proofs.passes.Rows.{passed_fault, row_stray, row_empty, row_ends, row_passed}
use Rattle.sheet.proofs.passes.check_row.Goals as goal

pub returns-in_err-needs : goal.returns-in_err-needs
returns-in_err-needs c =
    let p = err_from_is_err_and c.from_residual.result c.from_residual.ensures.1 in
    let e = c.in_err-needs.ensures.ends in
    rw (p.1, p.2, e.0) (passed_fault (head_ends _ _ _ e.1))

pub returns-in_err-needs-2 : goal.returns-in_err-needs-2
returns-in_err-needs-2 c =
    let p = err_from_is_err_and c.from_residual-in_err-needs-2.result c.from_residual-in_err-needs-2.ensures.1 in
    let e = c.in_err-needs-2.ensures.ends in
    rw (p.1, p.2, e.0) (passed_fault (map_ends _ _ _ c.in_ok-needs.ensures.enough (omega (
      arith,
      e.1,
      c.skip-at_map.ensures.place,
      ap length c.skip-at_map.ensures.sheet,
      c.map_width.ensures,
      bids_at_lem c.args.stations c.args.cursor.at,
    ))))

pub returns-then-map-stations-gt0 : goal.returns-then-map-stations-gt0
returns-then-map-stations-gt0 c =
    row_stray _ c.skip-at_map.ensures c.map-map.ensures (omega (arith, c.in_ok-needs-2.ensures.enough))
    c.if-map-stations-gt0.true

pub returns-then-empty : goal.returns-then-empty
returns-then-empty c =
    row_empty _ c.skip-at_map.ensures c.map-map.ensures (omega (arith, c.in_ok-needs-2.ensures.enough)) c.requires
    c.if-map-stations-gt0.false c.count-bids.ensures c.whole-whole.ensures c.any_empty-empty.ensures c.if-empty.true

pub returns-then-whole-bids : goal.returns-then-whole-bids
returns-then-whole-bids c =
    row_ends _ c.skip-at_map.ensures c.map-map.ensures (omega (arith, c.in_ok-needs-2.ensures.enough)) c.requires
    c.if-map-stations-gt0.false c.count-bids.ensures c.whole-whole.ensures c.any_empty-empty.ensures
    c.if-whole-bids.true c.if-empty.false

pub returns : goal.returns
returns c =
    row_passed _ c.skip-at_map.ensures c.map-map.ensures (omega (arith, c.in_ok-needs-2.ensures.enough)) c.requires
    c.if-map-stations-gt0.false c.count-bids.ensures c.whole-whole.ensures c.any_empty-empty.ensures
    c.if-whole-bids.false c.if-empty.false
