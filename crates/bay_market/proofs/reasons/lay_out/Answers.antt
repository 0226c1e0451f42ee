use mathlib.Core.Path.{◌≡◌, ap, ◌∙◌}
use native.Mathlib.Omega.{arith}
use Rattle.model.specs.Numbers.{charge_of}
use Rattle.model.specs.declared.reason.GuestOutcome.{GuestOutcome}
use Rattle.explain.specs.Outcomes.{record_at}
use Rattle.explain.proofs.outcomes.Outcomes.{record_in}
use Rattle.bay_market.proofs.Explained.{record_low, laying_turn}
use Rattle.bay_market.proofs.reasons.lay_out.Goals as goal

pub narrow-requires : goal.narrow-requires
narrow-requires c =
    let is_record : c.guest_outcome-outcome.result ≡ record_at c.args.told.now c.loop-i.i =
    c.guest_outcome-outcome.ensures ∙ record_in _ _ (omega arith) c.from-charge.ensures in
    omega (
      arith,
      c.charge_in.ensures ∙ ap (λ (o : GuestOutcome). charge_of o.result) is_record,
      record_low c.args.told.now c.loop-i.i,
    )

pub loop-i-preserved : goal.loop-i-preserved
loop-i-preserved c =
    let is_record : c.guest_outcome-outcome.result ≡ record_at c.args.told.now c.loop-i.i =
    c.guest_outcome-outcome.ensures ∙ record_in _ _ (omega arith) c.from-charge.ensures in
    laying_turn c.loop-i.invariant (omega arith) (omega arith) (omega arith) (omega arith)
    is_record c.station_in.ensures
    (c.narrow.ensures ∙ c.charge_in.ensures) c.loss_in.ensures
