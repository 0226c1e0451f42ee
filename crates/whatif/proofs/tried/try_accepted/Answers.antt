use mathlib.Core.Path.{◌∙◌}
use Rattle.model.proofs.Differences.{reads_back}
use Rattle.whatif.proofs.TriedRow.{first_ready, second_ready}
use Rattle.whatif.proofs.TriedRow.{tries_accepted}
use Rattle.whatif.proofs.tried.try_accepted.Goals as goal

pub gain-first-requires : goal.gain-first-requires
gain-first-requires c =
    let h = rw (← c.market.view_is) at c.requires in
    first_ready _ _ _ _ _ c.market.invariant _ _ _ h c.lay_row.ensures _
    (rw (← c.market.view_is) at c.both_rounds.ensures)

pub gain-second-requires : goal.gain-second-requires
gain-second-requires c =
    let h = rw (← c.market.view_is) at c.requires in
    second_ready _ _ _ _ _ c.market.invariant _ _ _ h c.lay_row.ensures _
    (rw (← c.market.view_is) at c.both_rounds.ensures)

pub returns : goal.returns
returns c =
    let h = rw (← c.market.view_is) at c.requires in
    rw (← c.market.view_is) (tries_accepted _ _ _ _ _ c.market.invariant _ _ _ h c.lay_row.ensures _
    (rw (← c.market.view_is) at c.both_rounds.ensures) _
    c.tell_changes.ensures
    (reads_back c.gain-first.result c.gain-first.type_inv ∙ c.gain-first.ensures)
    (reads_back c.gain-second.result c.gain-second.type_inv ∙ c.gain-second.ensures))
