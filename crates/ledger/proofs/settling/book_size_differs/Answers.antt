use borrow.Author.Rules.{rules}
use Rattle.model.specs.Counting.{◌<?◌, ◌=?◌, ◌or◌}
use Rattle.model.specs.market.Faults.{outside}
use Rattle.model.specs.book.PlainBook.{book_size}
use Rattle.ledger.proofs.settling.book_size_differs.Goals as goal

pub returns : goal.returns
returns c = unfold book_size ◌or◌ outside ◌<?◌ ◌=?◌ in search rules
