-- Laws by which the search decides the tests of codes and records.
use Rattle.model.proofs.Compared.{lt_is, eq_is}
use Rattle.model.proofs.Tests.{is_eq, not_eq, is_lt, not_lt, only_yes, only_no}
use Rattle.model.proofs.market.Limits.{product}

pub ruleset tests = (is_eq, not_eq, is_lt, not_lt, only_yes, only_no)

pub ruleset prices = (lt_is, eq_is, product)
