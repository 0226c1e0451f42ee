use Rattle.std.proofs.lemmas.Result.{err_from_is_err_and}
use Rattle.market_csv.proofs.Ending.{none_yet, field_large, field_read, field_malformed}
use Rattle.market_csv.proofs.reader.Reader.field.Goals as goal

pub returns-then-digits-self-clause-read : goal.returns-then-digits-self-clause-read
returns-then-digits-self-clause-read c =
    rw (← c.self.view_is) (field_large _ _ (rw (← c.self.view_is) at c.digits-digits.ensures.ran) c.if-digits-self.true)

pub returns-in_err-last-clause-read : goal.returns-in_err-last-clause-read
returns-in_err-last-clause-read c =
    let p = err_from_is_err_and c.from_residual.result c.from_residual.ensures.1 in
    rw (p.1, p.2, ← c.self.view_is)
    (field_malformed (rw (← c.self.view_is) at c.digits-digits.ensures.ran) c.if-digits-self.false _ _
    c.in_err-last.ensures)

pub invariant_of-self : goal.invariant_of-self
invariant_of-self c = none_yet _ _ _ _ c.in_ok-last.ensures

pub returns-clause-read : goal.returns-clause-read
returns-clause-read c =
    rw (← c.self.view_is)
    (field_read (rw (← c.self.view_is) at c.digits-digits.ensures.ran) c.if-digits-self.false _ _
    c.in_ok-last.ensures)
