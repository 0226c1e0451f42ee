use mathlib.Core.Path.{◌∙◌}
use Rattle.menu.proofs.Gaining.{holds, gains_there}
use Rattle.menu.proofs.rows.Offers.gain_rows.Goals as goal

pub invariant_of-row_keys : goal.invariant_of-row_keys
invariant_of-row_keys c =
    let p = rw (← c.self.view_is) at c.requires in
    holds _ _ c.self.invariant.priced _ _ _ _ (rw (← c.self.view_is) at c.prepare.ensures) _ _ p.0 p.1

pub returns : goal.returns
returns c =
    let p = rw (← c.self.view_is) at c.requires in
    rw (← c.self.view_is) (c.fill.ensures
    ∙ gains_there _ _ c.self.invariant.priced _ _ _ _ (rw (← c.self.view_is) at c.prepare.ensures) _ _ p.0 p.1)
