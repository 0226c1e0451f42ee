-- A call of `post` is a step of the plain book.
use mathlib.Core.Path.{sym, ◌∙◌}
use Rattle.model.specs.book.PlainBook.{answer, after}
use Rattle.model.specs.claims.Postings.{PostIsPlainStep}
use Rattle.model.specs.clauses.EntryPoints.{entering}
use Rattle.model.proofs.Promises.{giving_nothing}

pub post_is_plain_step : PostIsPlainStep
unfolding entering answer after
post_is_plain_step B C p v = (
  λ c. (c.answered ∙ giving_nothing _, c.left),
  λ (e, l). record { answered = e ∙ sym (giving_nothing _); left = l },
)
