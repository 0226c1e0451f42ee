use native.Mathlib.Omega.{arith}
use lib.ListN.{get_or, length}
use Rattle.model.specs.Counting.{◌<?◌}
use Rattle.model.proofs.Counting.{count_most}
use Rattle.sheet.proofs.writing.Rooms.{sizes, by_count}
use Rattle.sheet.proofs.writing.sheet_length.Goals as goal

pub overflow_add-row : goal.overflow_add-row
overflow_add-row c = omega (arith, (sizes _ c.market.invariant.shape).head_low, c.map_width-row.ensures)

pub overflow_mul-result-2 : goal.overflow_mul-result-2
overflow_mul-result-2 c = rw c.map_width-row.ensures (omega (arith, (sizes _ c.market.invariant.shape).heads_low))

pub overflow_add-result-2 : goal.overflow_add-result-2
overflow_add-result-2 c =
    let s = sizes _ c.market.invariant.shape in
    let bids = c.market.inside.bids.now in
    rw c.map_width-row.ensures (omega (
      arith,
      s.heads_low,
      s.bids_low,
      c.count_bids.ensures,
      count_most (length bids) (λ k. 0 <? get_or bids k 0),
    ))

pub overflow_add-result-3 : goal.overflow_add-result-3
overflow_add-result-3 c =
    let s = sizes _ c.market.invariant.shape in
    let bids = c.market.inside.bids.now in
    rw c.map_width-row.ensures (omega (
      arith,
      s.heads_low,
      s.bids_low,
      c.count_bids.ensures,
      count_most (length bids) (λ k. 0 <? get_or bids k 0),
      c.market.invariant.shape.stations_most,
    ))

pub returns : goal.returns
returns c =
    rw (← c.market.view_is)
    (by_count _ _ _ c.market.invariant.shape c.map_width-row.ensures c.count_bids.ensures)
