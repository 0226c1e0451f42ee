use mathlib.Core.Path.{refl, sym}
use native.Mathlib.Omega.{arith}
use Rattle.std.proofs.lemmas.Result.{err_from_is_err_and}
use Rattle.model.specs.Numbers.{answer_of_verdict}
use Rattle.model.specs.book.Book.{book}
use Rattle.model.proofs.Promises.{keeps_refused}
use Rattle.ledger.proofs.Takes.{takes, settled}
use Rattle.ledger.proofs.settling.settle.Goals as goal

pub returns-in_err-settling_fault : goal.returns-in_err-settling_fault
unfolding answer_of_verdict
returns-in_err-settling_fault c =
    let p = err_from_is_err_and c.from_residual.result c.from_residual.ensures.1 in
    rw (p.1, p.2) (keeps_refused (sym c.in_err-settling_fault.ensures))

pub add-requires : goal.add-requires
unfolding answer_of_verdict
add-requires c =
    let a = c.args in
    let t = takes a.r.now a.desk a.round (book a.guests.now a.stations.now a.house.now a.last.now)
    c.in_ok-settling_fault.ensures in
    (t.guests_most, t.guests_room)

pub add-requires-2 : goal.add-requires-2
unfolding answer_of_verdict
add-requires-2 c =
    let a = c.args in
    let t = takes a.r.now a.desk a.round (book a.guests.now a.stations.now a.house.now a.last.now)
    c.in_ok-settling_fault.ensures in
    record { few = (t.stations_least, t.stations_most); addable = (t.sold_room, t.paid_room) }

pub overflow_add-house : goal.overflow_add-house
unfolding answer_of_verdict
overflow_add-house c =
    let a = c.args in
    let t = takes a.r.now a.desk a.round (book a.guests.now a.stations.now a.house.now a.last.now)
    c.in_ok-settling_fault.ensures in
    omega (arith, t.house_room)

pub bounds-last-from : goal.bounds-last-from
unfolding answer_of_verdict
bounds-last-from c =
    let a = c.args in
    let t = takes a.r.now a.desk a.round (book a.guests.now a.stations.now a.house.now a.last.now)
    c.in_ok-settling_fault.ensures in
    omega (arith, t.desk_below, c.from.ensures)

pub returns : goal.returns
unfolding answer_of_verdict
returns c =
    rw c.from.ensures (settled _ _ _ _ c.add-2.new.stations
    c.in_ok-settling_fault.ensures c.add.ensures c.add-2.ensures refl)
