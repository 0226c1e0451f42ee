use mathlib.Core.Path.{refl, sym, ◌∙◌}
use native.Mathlib.Omega.{arith}
use Rattle.allocation.proofs.offers.Offers.{won_pays, gains_low, offers_more, offers_end}
use Rattle.allocation.proofs.offers.offer_below.Goals as goal

pub gain_for-gain-requires : goal.gain_for-gain-requires
gain_for-gain-requires c = (
  omega (arith, c.requires.totals_low c.loop-i.i),
  (λ w. rw c.larger-charge.ensures (won_pays _ _ _ _ _
      (λ p. omega (arith, c.requires.covers c.loop-i.i))
      c.requires.no_tie (sym c.is_won.ensures ∙ w))),
)

pub pick-requires : goal.pick-requires
pick-requires c =
    gains_low _ _ c.requires c.loop-i.invariant (omega arith) c.from-total.ensures c.from-old.ensures
    c.gain_for-gain.ensures

pub larger-requires : goal.larger-requires
larger-requires c =
    let low = gains_low _ _ c.requires c.loop-i.invariant (omega arith) c.from-total.ensures c.from-old.ensures
    c.gain_for-gain.ensures in
    (omega (arith, low.0), omega (arith, low.1))

pub narrow-requires : goal.narrow-requires
narrow-requires c =
    let low = gains_low _ _ c.requires c.loop-i.invariant (omega arith) c.from-total.ensures c.from-old.ensures
    c.gain_for-gain.ensures in
    omega (arith, c.larger.ensures, low.0, low.1)

pub loop-i-preserved : goal.loop-i-preserved
loop-i-preserved c =
    offers_more c.loop-i.invariant (omega arith) c.from-total.ensures refl
    c.from.ensures c.from-old.ensures c.is_won.ensures
    c.larger-charge.ensures c.gain_for-gain.ensures c.pick.ensures
    (c.narrow.ensures ∙ c.larger.ensures)

pub returns : goal.returns
returns c = offers_end c.loop-i.invariant (omega arith)
