use borrow.Author.Rules.{rules}
use Rattle.model.specs.Counting.{◌≤?◌}
use Rattle.model.specs.book.PlainBook.{no_desk}
use Rattle.ledger.proofs.settling.desk_out_of_range.Goals as goal

pub returns : goal.returns
returns c = unfold no_desk ◌≤?◌ in search rules
