use mathlib.Core.Path.{ap, ◌∙◌}
use native.Mathlib.Omega.{arith}
use lib.ListN.{get_or}
use Rattle.model.specs.Numbers.{answer_of_verdict}
use Rattle.model.specs.book.Book.{book}
use Rattle.model.specs.book.PlainBook.{out_of_turn}
use Rattle.ledger.proofs.Takes.{size_refused, sizes, desk_refused, desk_in, turn_refused, room_refused, room_left}
use Rattle.ledger.proofs.settling.settling_fault.Goals as goal

pub returns-then-book_size_differs : goal.returns-then-book_size_differs
unfolding answer_of_verdict
returns-then-book_size_differs c =
    (size_refused _ _ _ _ c.book_size_differs.ensures c.if-book_size_differs.true)

pub returns-then-desk_out_of_range : goal.returns-then-desk_out_of_range
unfolding answer_of_verdict
returns-then-desk_out_of_range c =
    (desk_refused _ _ _ _ c.book_size_differs.ensures c.if-book_size_differs.false
    c.desk_out_of_range.ensures c.if-desk_out_of_range.true)

pub bounds-last-from : goal.bounds-last-from
bounds-last-from c =
    omega (
      arith,
      c.from.ensures,
      desk_in c.args.r.now c.args.desk c.args.round
          (book c.args.guests.now c.args.stations.now c.args.house c.args.last.now) c.book_size_differs.ensures
          c.if-book_size_differs.false c.desk_out_of_range.ensures c.if-desk_out_of_range.false,
    )

pub returns-then-round_out_of_turn : goal.returns-then-round_out_of_turn
unfolding answer_of_verdict
returns-then-round_out_of_turn c =
    (turn_refused _ _ _ _ c.book_size_differs.ensures c.if-book_size_differs.false
    c.desk_out_of_range.ensures c.if-desk_out_of_range.false
    (c.round_out_of_turn.ensures
    ∙ ap (λ k. out_of_turn c.args.round (get_or c.args.last.now k 0)) c.from.ensures)
    c.if-round_out_of_turn.true)

pub any_exceeds-guests_full-requires : goal.any_exceeds-guests_full-requires
any_exceeds-guests_full-requires c =
    let a = c.args in
    (sizes a.r.now a.desk a.round (book a.guests.now a.stations.now a.house a.last.now)
    c.book_size_differs.ensures c.if-book_size_differs.false).0

pub any_exceeds-stations_full-requires : goal.any_exceeds-stations_full-requires
any_exceeds-stations_full-requires c =
    let a = c.args in
    (sizes a.r.now a.desk a.round (book a.guests.now a.stations.now a.house a.last.now)
    c.book_size_differs.ensures c.if-book_size_differs.false).1

pub returns-then-guests_full-stations_full : goal.returns-then-guests_full-stations_full
unfolding answer_of_verdict
returns-then-guests_full-stations_full c =
    (room_refused _ _ _ _ c.book_size_differs.ensures c.if-book_size_differs.false
    c.desk_out_of_range.ensures c.if-desk_out_of_range.false
    (c.round_out_of_turn.ensures
    ∙ ap (λ k. out_of_turn c.args.round (get_or c.args.last.now k 0)) c.from.ensures)
    c.if-round_out_of_turn.false c.any_exceeds-guests_full.ensures c.any_exceeds-stations_full.ensures
    c.exceeds-house_full.ensures c.if-guests_full-stations_full.true)

pub returns : goal.returns
unfolding answer_of_verdict
returns c =
    (room_left _ _ _ _ c.book_size_differs.ensures c.if-book_size_differs.false
    c.desk_out_of_range.ensures c.if-desk_out_of_range.false
    (c.round_out_of_turn.ensures
    ∙ ap (λ k. out_of_turn c.args.round (get_or c.args.last.now k 0)) c.from.ensures)
    c.if-round_out_of_turn.false c.any_exceeds-guests_full.ensures c.any_exceeds-stations_full.ensures
    c.exceeds-house_full.ensures c.if-guests_full-stations_full.false)
