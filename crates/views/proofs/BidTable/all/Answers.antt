use mathlib.Core.Path.{sym}
use Rattle.model.proofs.clauses.Rows.{bids_shown, bids_hidden}
use Rattle.views.proofs.BidTable.all.Goals as goal

pub returns-then-self-stations : goal.returns-then-self-stations
returns-then-self-stations c = sym (bids_shown _ _ _ c.if-self-stations.true)

pub returns-else-self-stations : goal.returns-else-self-stations
returns-else-self-stations c = bids_hidden _ _ _ c.if-self-stations.false
