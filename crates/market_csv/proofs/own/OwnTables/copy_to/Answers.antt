use Rattle.market_csv.specs.Copies.{copied}
use Rattle.copies.proofs.Tables.{tables_are}
use Rattle.market_csv.proofs.own.OwnTables.copy_to.Goals as goal

pub returns-clause-lent : goal.returns-clause-lent
unfolding copied
returns-clause-lent c =
    tables_are c.put_first.ensures c.put_first-2.ensures c.put_first-3.ensures c.put_first-4.ensures
    c.put_first-5.ensures
