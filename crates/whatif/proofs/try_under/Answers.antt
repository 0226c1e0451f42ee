use mathlib.Core.Path.{sym}
use Rattle.std.proofs.lemmas.Result.{err_from_is_err_and}
use Rattle.model.specs.Numbers.{answer_of_check, answer_of_trying}
use Rattle.model.proofs.Promises.{keeps_refused}
use Rattle.whatif.specs.Tried.{trying_under}
use Rattle.whatif.proofs.Asked.{guest_least, triable, accepted_tries}
use Rattle.whatif.proofs.try_under.Goals as goal

pub returns-in_err-accepted : goal.returns-in_err-accepted
unfolding trying_under answer_of_check answer_of_trying
returns-in_err-accepted c =
    let p = err_from_is_err_and c.from_residual.result c.from_residual.ensures.1 in
    rw (p.1, p.2) (keeps_refused (sym c.in_err-accepted.ensures.fault))

pub overflow_sub-guest : goal.overflow_sub-guest
unfolding answer_of_check
overflow_sub-guest c = guest_least _ _ _ _ _ c.in_ok-accepted.ensures.fault

pub try_accepted-requires : goal.try_accepted-requires
unfolding answer_of_check
try_accepted-requires c = rw c.in_ok-accepted.ensures.same (triable _ _ _ _ _ c.in_ok-accepted.ensures.fault)

pub returns : goal.returns
unfolding answer_of_check
returns c =
    accepted_tries _ _ _ _ _ _ _ c.in_ok-accepted.ensures.fault
    (rw c.in_ok-accepted.ensures.same at c.try_accepted.ensures)
