use Prim.Native.Nat.{ℕ, ◌≤◌}
use mathlib.Core.Path.{refl}
use native.Mathlib.Omega.{arith}
use Rattle.model.specs.Limits.{max_price}
use Rattle.model.proofs.Loops.{greatest_none, greatest_turn, greatest_low}
use Rattle.menu.specs.Keys.{max_lift, plain_key}
use Rattle.menu.proofs.keys.RowKeys.plain_top.Goals as goal

plain_low : (lift bid : ℕ) → bid ≤ max_price → lift ≤ max_lift → plain_key lift bid ≤ max_lift
unfolding plain_key
plain_low lift bid h l = omega arith

pub loop-j-init : goal.loop-j-init
loop-j-init c = (omega arith, greatest_none)

pub larger-top-requires : goal.larger-top-requires
larger-top-requires c =
    let h = rw (← c.self.view_is) at c.requires in
    let lifts = c.self.invariant.lifts_low in (
      omega (
        arith,
        greatest_low {y = max_lift} c.loop-j.invariant.1
            (λ k l. plain_low _ _ (h.low k l) (lifts k (omega (arith, h.long)))),
      ),
      omega (arith, h.low c.loop-j.j (omega arith), lifts c.loop-j.j (omega (arith, h.long))),
    )

pub loop-j-preserved : goal.loop-j-preserved
unfolding plain_key
loop-j-preserved c =
    let i = c.loop-j.invariant in (
      omega (arith, c.larger-top.ensures, i.0),
      greatest_turn i.1 (omega arith) refl (omega (arith, c.larger-top.ensures, i.0)),
    )
