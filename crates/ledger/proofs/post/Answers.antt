use Rattle.std.proofs.lemmas.Result.{err_from_is_err_and}
use Rattle.model.specs.Numbers.{answer_of_verdict}
use Rattle.model.specs.book.Book.{book}
use Rattle.model.specs.book.Posting.{posting}
use Rattle.ledger.proofs.Posting.{refused_posts, settled_posts}
use Rattle.ledger.proofs.post.Goals as goal

pub returns-in_err-r : goal.returns-in_err-r
unfolding answer_of_verdict
returns-in_err-r c =
    let a = c.args in
    let p = err_from_is_err_and c.from_residual.result c.from_residual.ensures.1 in
    rw (p.1, p.2) (refused_posts (posting a.rule a.market.now a.desk a.round)
    (book a.guests.now a.stations.now a.house.now a.last.now) _ c.in_err-r.ensures)

pub returns : goal.returns
returns c =
    let a = c.args in
    settled_posts (posting a.rule a.market.now a.desk a.round)
    (book a.guests.now a.stations.now a.house.now a.last.now) _ _ _ c.in_ok-r.ensures c.settle.ensures
