use Rattle.std.proofs.lemmas.Result.{err_from_is_err_and}
use Rattle.sheet.proofs.checking.Headers.{short, out_of_range, few, short_stations, at_rows, bad_row}
use Rattle.sheet.proofs.checking.Headers.{too_long, all_read}
use mathlib.Core.Path.{sym, ◌∙◌}
use Rattle.model.proofs.Tests.{le_yes, le_no}
use Rattle.sheet.proofs.checking.check.Goals as goal

pub returns-in_err-needs : goal.returns-in_err-needs
returns-in_err-needs c =
    let p = err_from_is_err_and c.from_residual.result c.from_residual.ensures.1 in
    let e = c.in_err-needs.ensures.ends in
    rw (p.1, p.2, e.0) (short c.new-start.ensures e.1)

pub returns-then-counts_out_of_range : goal.returns-then-counts_out_of_range
returns-then-counts_out_of_range c =
    out_of_range c.new-start.ensures c.in_ok-needs.ensures.enough c.two-guests.ensures c.two-stations.ensures
    c.from-guests.ensures c.from-stations.ensures c.counts_out_of_range.ensures c.if-counts_out_of_range.true

pub returns-in_err-needs-2 : goal.returns-in_err-needs-2
returns-in_err-needs-2 c =
    let p = err_from_is_err_and c.from_residual-in_err-needs-2.result c.from_residual-in_err-needs-2.ensures.1 in
    let e = c.in_err-needs-2.ensures.ends in
    rw (p.1, p.2, e.0)
    (short_stations c.new-start.ensures c.in_ok-needs.ensures.enough c.two-guests.ensures c.two-stations.ensures
    c.from-guests.ensures c.from-stations.ensures c.counts_out_of_range.ensures c.if-counts_out_of_range.false e.1)

pub check_rows-requires : goal.check_rows-requires
check_rows-requires c = (
  few c.new-start.ensures c.in_ok-needs.ensures.enough c.two-guests.ensures c.two-stations.ensures c.from-guests.ensures
      c.from-stations.ensures c.counts_out_of_range.ensures c.if-counts_out_of_range.false,
  at_rows c.new-start.ensures c.in_ok-needs.ensures.enough c.two-guests.ensures c.two-stations.ensures
      c.from-guests.ensures c.from-stations.ensures c.counts_out_of_range.ensures c.if-counts_out_of_range.false
      c.in_ok-needs-2.ensures.enough c.skip-rows.ensures,
)

pub returns-in_err-end : goal.returns-in_err-end
returns-in_err-end c =
    let p = err_from_is_err_and c.from_residual-in_err-end.result c.from_residual-in_err-end.ensures.1 in
    rw (p.1, p.2)
    (bad_row c.new-start.ensures c.in_ok-needs.ensures.enough c.two-guests.ensures c.two-stations.ensures
    c.from-guests.ensures c.from-stations.ensures c.counts_out_of_range.ensures c.if-counts_out_of_range.false
    c.in_ok-needs-2.ensures.enough c.skip-rows.ensures c.in_err-end.ensures)

pub returns-then-not-at_end : goal.returns-then-not-at_end
returns-then-not-at_end c =
    too_long c.new-start.ensures c.in_ok-needs.ensures.enough c.two-guests.ensures c.two-stations.ensures
    c.from-guests.ensures c.from-stations.ensures c.counts_out_of_range.ensures c.if-counts_out_of_range.false
    c.in_ok-needs-2.ensures.enough c.skip-rows.ensures c.in_ok-end.ensures
    (le_no _ _ (sym c.at_end.ensures ∙ c.if-not-at_end.true))

pub returns : goal.returns
returns c =
    all_read c.new-start.ensures c.in_ok-needs.ensures.enough c.two-guests.ensures c.two-stations.ensures
    c.from-guests.ensures c.from-stations.ensures c.counts_out_of_range.ensures c.if-counts_out_of_range.false
    c.in_ok-needs-2.ensures.enough c.skip-rows.ensures c.in_ok-end.ensures
    (le_yes _ _ (sym c.at_end.ensures ∙ c.if-not-at_end.false))
