use Rattle.std.proofs.lemmas.Result.{err_from_is_err_and}
use Rattle.market_csv.proofs.Lending.{refused_lent, refused_text, fits, read_all}
use Rattle.market_csv.proofs.read_csv.Goals as goal

pub returns-in_err-read_lengths_fault : goal.returns-in_err-read_lengths_fault
returns-in_err-read_lengths_fault c =
    let p = err_from_is_err_and c.from_residual.result c.from_residual.ensures.1 in
    rw (p.1, p.2) (refused_lent _ _ c.read_lengths_fault.ensures _ c.in_err-read_lengths_fault.was)

pub returns-in_err-counts : goal.returns-in_err-counts
returns-in_err-counts c =
    let p = err_from_is_err_and c.from_residual-in_err-counts.result c.from_residual-in_err-counts.ensures.1 in
    rw (p.1, p.2)
    (refused_text _ _ c.read_lengths_fault.ensures c.in_ok-read_lengths_fault.was _ _ c.in_err-counts.ensures)

pub copy_to-requires : goal.copy_to-requires
copy_to-requires c =
    fits _ _ c.read_lengths_fault.ensures c.in_ok-read_lengths_fault.was _ _ c.in_ok-counts.ensures

pub returns : goal.returns
returns c =
    read_all _ _ c.read_lengths_fault.ensures c.in_ok-read_lengths_fault.was _ _ c.in_ok-counts.ensures
    c.copy_to.ensures.fit c.copy_to.ensures.lent
