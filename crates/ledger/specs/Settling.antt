-- What settling a round promises.
use Rattle.std.specs.Prelude.{ℕ, ◌+◌, Bool, [], ◌∷◌, get_or, length, set}
use Rattle.model.specs.Limits.{max_account}
use Rattle.model.specs.Counting.{◌<?◌, ◌or◌}
use Rattle.model.specs.Promises.{Promise}
use Rattle.model.specs.Verdicts.{◌gives◌}
use Rattle.model.specs.book.PlainBook.{PlainBook, last_of, raised, book_size, no_desk, out_of_turn}
use Rattle.ledger.specs.declared.round.Round.{Round}
use Rattle.ledger.specs.Accounts.{plus}
use Rattle.ledger.specs.Room.{exceeding}

-- some account would be above its limit
unfoldable pub no_room : Round → PlainBook → Bool
no_room r B =
    exceeding B.guests r.charges or (exceeding B.sold r.sold or exceeding B.paid r.paid)
    or max_account <? B.house + r.margin.0

-- round r, its desk and its number, settled on a book
unfoldable pub settling : Round → (desk round : ℕ) → (entry : PlainBook) → Promise Unit PlainBook
settling r desk round B = record {
  faults =
      book_size r.guests r.stations (length B.guests) (length B.sold) (length B.last)
      ∷ no_desk desk
      ∷ out_of_turn round (last_of B desk)
      ∷ (no_room r B gives 12)
      ∷ [];
  value = tt;
  leaves = record {
    guests = plus B.guests r.charges;
    sold = raised r.stations (λ j. get_or r.sold j 0) B.sold;
    paid = raised r.stations (λ j. get_or r.paid j 0) B.paid;
    house = B.house + r.margin.0;
    last = set B.last desk round;
  };
}
