-- Every list of the example's calls ends as the plain book does.
use mathlib.Core.Path.{◌∙◌}
use Rattle.model.specs.claims.Postings.{ExampleEndsSo, from_two_desks, TwoDesksEndSo}
use Rattle.model.proofs.book.Book.{plain_determines}
use Rattle.model.proofs.claims.Postings.{from_empty}
use Rattle.model.proofs.cases.Example.{twice, plain_twice, plain_from_two}

pub example_ends_so : ExampleEndsSo
example_ends_so vs B c =
    let (e, q) = from_empty 2 2 twice c in
    (e ∙ plain_twice.0, plain_determines B _ (q ∙ plain_twice.1))

pub two_desks_end_so : TwoDesksEndSo
two_desks_end_so vs B c =
    let (e, q) = from_empty 2 2 from_two_desks c in
    (e ∙ plain_from_two.0, plain_determines B _ (q ∙ plain_from_two.1))
