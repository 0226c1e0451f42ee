use Prim.Native.Nat.{ℕ, ◌+◌, ◌*◌, ◌-◌, ◌≤◌}
use mathlib.Core.Bool.{Bool, true, false}
use mathlib.Core.Path.{◌≡◌, refl, ap, ◌∙◌}
use native.Mathlib.Omega.{arith}
use lib.ListN.{get_or}
use Rattle.model.specs.Limits.{max_price}
use Rattle.model.specs.Counting.{◌≤?◌, only}
use Rattle.model.proofs.Tests.{only_le}
use Rattle.model.proofs.Loops.{folded_end, greatest_none, greatest_turn, greatest_low}
use Rattle.menu.specs.Keys.{max_lift, plain_key, key_from}
use Rattle.menu.specs.Holds.{row_key}
use Rattle.menu.proofs.keys.RowKeys.exact_top.Goals as goal

key_low : (least lift bid : ℕ) → bid ≤ max_price → lift ≤ max_lift → key_from least lift bid ≤ max_lift
unfolding key_from plain_key
key_low least lift bid h l = only_le _ _ _ (λ _. omega arith)

only_minus : (b : Bool) (x y : ℕ) → only b x - y ≡ only b (x - y)
unfolding only
only_minus true x y = refl
only_minus false x y = omega arith

pub loop-j-init : goal.loop-j-init
loop-j-init c = (omega arith, greatest_none)

pub larger-top-requires : goal.larger-top-requires
larger-top-requires c =
    let h = rw (← c.self.view_is) at c.requires in
    let lifts = c.self.invariant.lifts_low in
    let j = c.loop-j.j in
    let bid = get_or c.args.row.now j 0 in
    let here = only_le (get_or c.self.inside.leasts.now j 0 ≤? bid) (64 * bid + get_or c.self.inside.lifts.now j 0)
    (64 * max_price + max_lift) (λ _. omega (arith, h.low j (omega arith), lifts j (omega (arith, h.long)))) in (
      omega (
        arith,
        greatest_low {y = max_lift} c.loop-j.invariant.1
            (λ k l. key_low _ _ _ (h.low k l) (lifts k (omega (arith, h.long)))),
      ),
      omega (arith, c.held.ensures, here),
    )

pub loop-j-preserved : goal.loop-j-preserved
unfolding key_from plain_key
loop-j-preserved c =
    let i = c.loop-j.invariant in (
      omega (arith, c.larger-top.ensures, i.0),
      greatest_turn i.1 (omega arith) (ap (λ x. x - 64 * max_price) c.held.ensures ∙ only_minus _ _ _)
          (omega (arith, c.larger-top.ensures, i.0)),
    )

pub returns : goal.returns
unfolding row_key
returns c = rw (← c.self.view_is) (folded_end c.loop-j.invariant.1 (omega arith))
