use mathlib.Core.Path.{refl, sym}
use Rattle.std.proofs.lemmas.Result.{err_from_is_err_and}
use Rattle.model.specs.Numbers.{answer_of_verdict}
use Rattle.model.specs.clauses.EntryPoints.{placing}
use Rattle.model.proofs.Promises.{keeps_accepted, keeps_refused}
use Rattle.model.proofs.places.Acceptance.{placing_accepted_iff_within_limits}
use Rattle.grid.proofs.place_bids.Goals as goal

pub returns-in_err-placing_fault : goal.returns-in_err-placing_fault
unfolding placing answer_of_verdict
returns-in_err-placing_fault c =
    let p = err_from_is_err_and c.from_residual.result c.from_residual.ensures.1 in
    rw (p.1, p.2) (keeps_refused (sym c.in_err-placing_fault.ensures))

pub place_rows-requires : goal.place_rows-requires
unfolding answer_of_verdict
place_rows-requires c = (placing_accepted_iff_within_limits _ _).0 (sym c.in_ok-placing_fault.ensures)

pub returns : goal.returns
unfolding placing answer_of_verdict
returns c = keeps_accepted (sym c.in_ok-placing_fault.ensures) refl c.place_rows.ensures
