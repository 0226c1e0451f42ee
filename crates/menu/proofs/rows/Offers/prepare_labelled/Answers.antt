use Prim.Native.Nat.{◌≤◌}
use mathlib.Core.Path.{◌≡◌, ap₂, ◌∙◌}
use native.Mathlib.Nat.{le_refl}
use native.Mathlib.Omega.{arith}
use lib.ListN.{length, get_or}
use Rattle.model.proofs.Differences.{reads_back}
use Rattle.model.proofs.Loops.{long, element, filling_none, filling_turn, filling_end}
use Rattle.menu.specs.Keys.{lift, label, gain_at}
use Rattle.menu.proofs.BestKey.{label_most}
use Rattle.menu.proofs.Gaining.{quotient_low, labelled_none, labelled_turn, labelled_end}
use Rattle.menu.proofs.rows.Offers.prepare_labelled.Goals as goal

pub loop-j-init : goal.loop-j-init
loop-j-init c =
    let p = rw (← c.self.view_is) at c.requires in
    (filling_none p.0, filling_none (long _ _ p.1), labelled_none p.2)

pub lift-requires : goal.lift-requires
lift-requires c =
    let p = rw (← c.self.view_is) at c.requires in
    let o = c.self.inside in
    let label_is : get_or c.loop-j.lifts c.loop-j.j 0 ≡ label o.prices.now o.amount c.loop-j.j =
    c.loop-j.invariant.1.filled.left _ (le_refl _) ∙ element _ _ p.1 _ (omega arith) in
    let priced = c.self.invariant.priced in
    rw (c.least_bid-least.ensures, c.from-kwh.ensures) (
      priced.amount_least,
      omega (arith, label_is, label_most o.prices.now o.amount c.loop-j.j, priced.few),
      λ h. quotient_low _ _ priced _ (omega arith) h,
    )

pub bounds-table-label : goal.bounds-table-label
bounds-table-label c =
    let p = rw (← c.self.view_is) at c.requires in
    let o = c.self.inside in
    let label_is : get_or c.loop-j.lifts c.loop-j.j 0 ≡ label o.prices.now o.amount c.loop-j.j =
    c.loop-j.invariant.1.filled.left _ (le_refl _) ∙ element _ _ p.1 _ (omega arith) in
    omega (
      arith,
      label_is,
      label_most o.prices.now o.amount c.loop-j.j,
      c.self.invariant.priced.few,
      c.loop-j.invariant.2.long,
    )

pub loop-j-preserved : goal.loop-j-preserved
unfolding gain_at
loop-j-preserved c =
    let p = rw (← c.self.view_is) at c.requires in
    let o = c.self.inside in
    let label_is : get_or c.loop-j.lifts c.loop-j.j 0 ≡ label o.prices.now o.amount c.loop-j.j =
    c.loop-j.invariant.1.filled.left _ (le_refl _) ∙ element _ _ p.1 _ (omega arith) in
    let i = c.loop-j.invariant in
    let few : length o.prices.now ≤ 62 = omega (arith, c.self.invariant.priced.few) in (
      filling_turn i.0 (omega arith) (rw c.from-kwh.ensures at c.least_bid-least.ensures),
      filling_turn i.1 (omega arith) (rw c.from-kwh.ensures at c.lift.ensures
          ∙ ap₂ (λ x. lift x (get_or o.prices.now c.loop-j.j 0) o.amount)
          (rw c.from-kwh.ensures at c.least_bid-least.ensures) label_is),
      labelled_turn i.2 (omega arith) few label_is
          (reads_back c.gain.result c.gain.type_inv ∙ c.gain.ensures),
    )

pub returns : goal.returns
returns c =
    let i = c.loop-j.invariant in
    rw (← c.self.view_is) (record {
      leasts_are = filling_end i.0 (omega arith);
      lifts_are = filling_end i.1 (omega arith);
      labelled = labelled_end i.2 i.0.within (omega arith);
    })
