use mathlib.Core.Path.{subst}
use native.Mathlib.Omega.{arith}
use Rattle.model.specs.claims.Meaning.{WithinLimits}
use Rattle.model.proofs.market.Outcomes.{of_truthful}
use Rattle.allocation.proofs.totals.Totals.{as_many}
use Rattle.allocation.proofs.assignment.Assignment.{starts, turning_more, turning_end, bounded_end, truthfully}
use Rattle.allocation.proofs.assignment.Assignment.{chargeable, assigned}
use Rattle.allocation.proofs.assignment.assign_with_bars.Goals as goal

pub loop-j-init : goal.loop-j-init
loop-j-init c = starts c.market.view_is c.market.invariant c.requires.criticals_value

pub loop-j-preserved : goal.loop-j-preserved
loop-j-preserved c =
    let done = c.station.ensures in (
      turning_more c.loop-j.invariant.0 (omega (arith, as_many c.market.view_is)) c.station.auto.totals
          (done.0, done.1),
      done.2,
    )

pub charge_guests-requires : goal.charge_guests-requires
charge_guests-requires c =
    let w = subst WithinLimits c.market.view_is c.market.invariant in
    let turned = turning_end c.loop-j.invariant.0 (omega (arith, as_many c.market.view_is)) in
    chargeable _ c.requires.at_cut (of_truthful _) (truthfully _ _ w turned.after) w c.requires.stations_len.0
    c.requires.stations_len.1

pub returns : goal.returns
returns c =
    let w = subst WithinLimits c.market.view_is c.market.invariant in
    let turned = turning_end c.loop-j.invariant.0 (omega (arith, as_many c.market.view_is)) in (
      assigned _ c.requires.at_cut (of_truthful _) (truthfully _ _ w turned.after) c.charge_guests.ensures,
      record {
        bounded = bounded_end c.loop-j.invariant.0 (omega (arith, as_many c.market.view_is)) c.loop-j.invariant.1;
        criticals_are = turned.after.criticals_are;
      },
    )
