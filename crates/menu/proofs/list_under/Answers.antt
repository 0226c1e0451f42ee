use mathlib.Core.Path.{sym}
use Rattle.std.proofs.lemmas.Result.{err_from_is_err_and}
use Rattle.model.specs.Numbers.{answer_of_check, answer_of_verdict}
use Rattle.model.proofs.Promises.{keeps_refused}
use Rattle.menu.specs.Accepted.{listing_under}
use Rattle.menu.proofs.Asked.{listed_guest_least, listable, accepted_lists}
use Rattle.menu.proofs.list_under.Goals as goal

pub returns-in_err-accepted : goal.returns-in_err-accepted
unfolding listing_under answer_of_check answer_of_verdict
returns-in_err-accepted c =
    let p = err_from_is_err_and c.from_residual.result c.from_residual.ensures.1 in
    rw (p.1, p.2) (keeps_refused (sym c.in_err-accepted.ensures.fault))

pub overflow_sub-guest : goal.overflow_sub-guest
unfolding answer_of_check
overflow_sub-guest c = listed_guest_least _ _ _ c.in_ok-accepted.ensures.fault

pub list_accepted-requires : goal.list_accepted-requires
unfolding answer_of_check
list_accepted-requires c = rw c.in_ok-accepted.ensures.same (listable _ _ _ c.in_ok-accepted.ensures.fault)

pub returns : goal.returns
unfolding answer_of_check
returns c =
    accepted_lists _ _ _ c.in_ok-accepted.ensures.fault _
    (rw c.in_ok-accepted.ensures.same at c.list_accepted.ensures)
