use mathlib.Core.Path.{refl, sym, ap, ◌∙◌}
use native.Mathlib.Omega.{arith}
use Prim.Native.Nat.{◌*◌}
use lib.ListN.{length}
use Rattle.std.proofs.lemmas.Result.{err_from_is_err_and}
use Rattle.model.specs.sheet.Rows.{amount_of, ticket_of, ask_of, bays_of, bid_of}
use Rattle.model.proofs.Counting.{length_list}
use Rattle.model.proofs.sheet.Joined.{joined_length}
use Rattle.model.proofs.sheet.Rows.{first_row}
use Rattle.model.proofs.sheet.Tables.{refused_sheet, read_all}
use Rattle.sheet.proofs.Reading.{lent_fault, lengths_good, readable, front, over_front, stations_of}
use Rattle.sheet.proofs.read.Goals as goal

pub returns-in_err-read_lengths_fault : goal.returns-in_err-read_lengths_fault
returns-in_err-read_lengths_fault c =
    let p = err_from_is_err_and c.from_residual.result c.from_residual.ensures.1 in
    rw (p.1, p.2) (lent_fault _ _ _ _ _ _ _ c.in_err-read_lengths_fault.ensures)

pub returns-in_err-counts : goal.returns-in_err-counts
returns-in_err-counts c =
    let p = err_from_is_err_and c.from_residual-in_err-counts.result c.from_residual-in_err-counts.ensures.1 in
    rw (p.1, p.2) (refused_sheet _ _ _ _ _ _
    (lengths_good _ _ _ _ _ c.in_ok-read_lengths_fault.ensures) _ _ c.in_err-counts.ensures refl)

pub skip-at_stations-requires : goal.skip-at_stations-requires
skip-at_stations-requires c =
    let r = readable c.args.sheet.now c.args.amounts.now c.args.tickets.now c.args.asks.now c.args.bays.now
    c.args.bids.now c.in_ok-counts.counts c.in_ok-read_lengths_fault.ensures c.in_ok-counts.ensures in
    omega (arith, r.stations_in, c.new.ensures.place, ap length c.new.ensures.sheet)

pub slice_bounds-fill_stations-end : goal.slice_bounds-fill_stations-end
slice_bounds-fill_stations-end c =
    let r = readable c.args.sheet.now c.args.amounts.now c.args.tickets.now c.args.asks.now c.args.bays.now
    c.args.bids.now c.in_ok-counts.counts c.in_ok-read_lengths_fault.ensures c.in_ok-counts.ensures in
    r.asks

pub slice_bounds-fill_stations-end-2 : goal.slice_bounds-fill_stations-end-2
slice_bounds-fill_stations-end-2 c =
    let r = readable c.args.sheet.now c.args.amounts.now c.args.tickets.now c.args.asks.now c.args.bays.now
    c.args.bids.now c.in_ok-counts.counts c.in_ok-read_lengths_fault.ensures c.in_ok-counts.ensures in
    sym (front _ _ r.asks)

pub slice_bounds-fill_stations-end-3 : goal.slice_bounds-fill_stations-end-3
slice_bounds-fill_stations-end-3 c =
    let r = readable c.args.sheet.now c.args.amounts.now c.args.tickets.now c.args.asks.now c.args.bays.now
    c.args.bids.now c.in_ok-counts.counts c.in_ok-read_lengths_fault.ensures c.in_ok-counts.ensures in
    r.bays

pub slice_bounds-fill_stations-end-4 : goal.slice_bounds-fill_stations-end-4
slice_bounds-fill_stations-end-4 c =
    let r = readable c.args.sheet.now c.args.amounts.now c.args.tickets.now c.args.asks.now c.args.bays.now
    c.args.bids.now c.in_ok-counts.counts c.in_ok-read_lengths_fault.ensures c.in_ok-counts.ensures in
    sym (front _ _ r.bays)

pub fill_stations-at_rows-requires : goal.fill_stations-at_rows-requires
fill_stations-at_rows-requires c =
    let r = readable c.args.sheet.now c.args.amounts.now c.args.tickets.now c.args.asks.now c.args.bays.now
    c.args.bids.now c.in_ok-counts.counts c.in_ok-read_lengths_fault.ensures c.in_ok-counts.ensures in
    let s = c.skip-at_stations.ensures in (
      front _ _ r.bays ∙ sym (front _ _ r.asks),
      omega (arith, s.place, c.new.ensures.place),
      rw (front _ _ r.asks, s.sheet, c.new.ensures.sheet) r.stations_in,
    )

pub slice_bounds-fill_rows-end : goal.slice_bounds-fill_rows-end
slice_bounds-fill_rows-end c =
    let r = readable c.args.sheet.now c.args.amounts.now c.args.tickets.now c.args.asks.now c.args.bays.now
    c.args.bids.now c.in_ok-counts.counts c.in_ok-read_lengths_fault.ensures c.in_ok-counts.ensures in
    r.amounts

pub slice_bounds-fill_rows-end-2 : goal.slice_bounds-fill_rows-end-2
slice_bounds-fill_rows-end-2 c =
    let r = readable c.args.sheet.now c.args.amounts.now c.args.tickets.now c.args.asks.now c.args.bays.now
    c.args.bids.now c.in_ok-counts.counts c.in_ok-read_lengths_fault.ensures c.in_ok-counts.ensures in
    sym (front _ _ r.amounts)

pub slice_bounds-fill_rows-end-3 : goal.slice_bounds-fill_rows-end-3
slice_bounds-fill_rows-end-3 c =
    let r = readable c.args.sheet.now c.args.amounts.now c.args.tickets.now c.args.asks.now c.args.bays.now
    c.args.bids.now c.in_ok-counts.counts c.in_ok-read_lengths_fault.ensures c.in_ok-counts.ensures in
    r.tickets

pub slice_bounds-fill_rows-end-4 : goal.slice_bounds-fill_rows-end-4
slice_bounds-fill_rows-end-4 c =
    let r = readable c.args.sheet.now c.args.amounts.now c.args.tickets.now c.args.asks.now c.args.bays.now
    c.args.bids.now c.in_ok-counts.counts c.in_ok-read_lengths_fault.ensures c.in_ok-counts.ensures in
    sym (front _ _ r.tickets)

pub overflow_mul-guests : goal.overflow_mul-guests
overflow_mul-guests c =
    let r = readable c.args.sheet.now c.args.amounts.now c.args.tickets.now c.args.asks.now c.args.bays.now
    c.args.bids.now c.in_ok-counts.counts c.in_ok-read_lengths_fault.ensures c.in_ok-counts.ensures in
    omega (arith, r.small)

pub slice_bounds-fill_rows-end-5 : goal.slice_bounds-fill_rows-end-5
slice_bounds-fill_rows-end-5 c =
    let r = readable c.args.sheet.now c.args.amounts.now c.args.tickets.now c.args.asks.now c.args.bays.now
    c.args.bids.now c.in_ok-counts.counts c.in_ok-read_lengths_fault.ensures c.in_ok-counts.ensures in
    r.bids

pub slice_bounds-fill_rows-end-6 : goal.slice_bounds-fill_rows-end-6
slice_bounds-fill_rows-end-6 c =
    let r = readable c.args.sheet.now c.args.amounts.now c.args.tickets.now c.args.asks.now c.args.bays.now
    c.args.bids.now c.in_ok-counts.counts c.in_ok-read_lengths_fault.ensures c.in_ok-counts.ensures in
    sym (front _ _ r.bids)

pub fill_rows-requires : goal.fill_rows-requires
fill_rows-requires c =
    let r = readable c.args.sheet.now c.args.amounts.now c.args.tickets.now c.args.asks.now c.args.bays.now
    c.args.bids.now c.in_ok-counts.counts c.in_ok-read_lengths_fault.ensures c.in_ok-counts.ensures in
    let same = c.fill_stations-at_rows.ensures.moved.sheet ∙ c.skip-at_stations.ensures.sheet ∙ c.new.ensures.sheet in (
      r.few,
      omega (
        arith,
        c.fill_stations-at_rows.ensures.moved.place,
        c.skip-at_stations.ensures.place,
        c.new.ensures.place,
        front _ _ r.asks,
        first_row c.fill_stations-at_rows.result.sheet.now c.in_ok-counts.counts.stations,
      ),
      rw (same, front _ _ r.amounts) r.rows_in,
      front _ _ r.tickets ∙ sym (front _ _ r.amounts),
      front _ _ r.bids ∙ ap (λ n. n * c.in_ok-counts.counts.stations) (sym (front _ _ r.amounts)),
    )

pub returns : goal.returns
returns c =
    let r = readable c.args.sheet.now c.args.amounts.now c.args.tickets.now c.args.asks.now c.args.bays.now
    c.args.bids.now c.in_ok-counts.counts c.in_ok-read_lengths_fault.ensures c.in_ok-counts.ensures in
    let n = c.in_ok-counts.counts.guests in
    let m = c.in_ok-counts.counts.stations in
    let s = c.args.sheet.now in
    let start = c.skip-at_stations.ensures.sheet ∙ c.new.ensures.sheet in
    let f = stations_of c.fill_stations-at_rows.ensures (front _ _ r.asks) start in
    let g = rw (front _ _ r.amounts, c.fill_stations-at_rows.ensures.moved.sheet ∙ start) at c.fill_rows.ensures in
    read_all _ _ _ _ _ _ (lengths_good _ _ _ _ _ c.in_ok-read_lengths_fault.ensures) _ _ _ _ _ _ _
    r.good r.n_is r.m_is
    (over_front _ n g.amounts_are (length_list n (amount_of s m)))
    (over_front _ n g.tickets_are (length_list n (ticket_of s m)))
    (over_front _ m f.0 (length_list m (ask_of s)))
    (over_front _ m f.1 (length_list m (bays_of s)))
    (over_front _ (n * m) g.bids_are (joined_length n m (bid_of s m)))
