use native.Mathlib.Omega.{arith}
use Rattle.views.proofs.Rows.{row_there, no_guest, row_past, row_of_none}
use Rattle.views.proofs.BidTable.row.Goals as goal
use Rattle.views.proofs.BidTable.row.Goals.{in_default-via-in_default, in_default-via-in-Some+else-guest-gt0}
use Rattle.views.proofs.BidTable.row.Goals.{in_default-via-in-Some+then-guest-gt0+else-guest-guests}

pub returns-in-Some : goal.returns-in-Some
returns-in-Some c = row_there _ _ _ c.if-guest-gt0.true c.in-Some.ensures.0 c.in-Some.ensures.1 c.if-guest-guests.true

pub returns-in_default : goal.returns-in_default
returns-in_default c =
    elim c.in_default.branch [
      | in_default-via-in-Some+then-guest-gt0+else-guest-guests w ↦
          row_past _ _ _ w.in-Some.ensures.0 w.in-Some.ensures.1 w.if-guest-guests.false
      | in_default-via-in-Some+else-guest-gt0 w ↦ no_guest _ _ _ w.if-guest-gt0.false
      | in_default-via-in_default w ↦ row_of_none _ _ _ (omega (arith, w.in_default.ensures))
    ]
