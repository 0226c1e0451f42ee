use Rattle.std.proofs.lemmas.Result.{err_from_is_err_and}
use Rattle.model.specs.Numbers.{answer_of_verdict, answer_of_check}
use Rattle.join.proofs.Joins.{first_refused, second_refused, pair_refused, tables_fit, joins}
use Rattle.join.proofs.join.Goals as goal

pub returns-in_err-first : goal.returns-in_err-first
unfolding answer_of_verdict answer_of_check
returns-in_err-first c =
    let p = err_from_is_err_and c.from_residual.result c.from_residual.ensures.1 in
    rw (p.1, p.2) (first_refused _ _ _ c.in_err-first.ensures.fault)

pub returns-in_err-second : goal.returns-in_err-second
unfolding answer_of_verdict answer_of_check
returns-in_err-second c =
    let q = c.from_residual-in_err-second in
    let p = err_from_is_err_and q.result q.ensures.1 in
    rw (p.1, p.2) (second_refused _ _ _ c.in_ok-first.ensures.fault c.in_err-second.ensures.fault)

pub returns-in_err-pair_fault : goal.returns-in_err-pair_fault
unfolding answer_of_verdict answer_of_check
returns-in_err-pair_fault c =
    let q = c.from_residual-in_err-pair_fault in
    let p = err_from_is_err_and q.result q.ensures.1 in
    rw (p.1, p.2) (pair_refused _ _ _ c.in_ok-first.ensures.fault c.in_ok-second.ensures.fault
    c.in_ok-first.ensures.same c.in_ok-second.ensures.same c.in_err-pair_fault.ensures)

pub put_together-requires : goal.put_together-requires
unfolding answer_of_verdict answer_of_check
put_together-requires c =
    tables_fit _ _ _ c.in_ok-first.ensures.fault c.in_ok-second.ensures.fault c.in_ok-first.ensures.same
    c.in_ok-second.ensures.same c.in_ok-pair_fault.ensures

pub returns : goal.returns
unfolding answer_of_verdict answer_of_check
returns c =
    joins _ _ _ c.in_ok-first.ensures.fault c.in_ok-second.ensures.fault c.in_ok-first.ensures.same
    c.in_ok-second.ensures.same c.in_ok-pair_fault.ensures c.put_together.ensures
