use Prim.Native.Nat.{◌-◌}
use mathlib.Core.Path.{ap₂, ◌∙◌}
use native.Mathlib.Omega.{arith}
use borrow.Author.Rules.{rules}
use Rattle.std.proofs.lemmas.List.{length-append}
use Rattle.std.proofs.lemmas.Slice.Zip.{zip_turn}
use Rattle.model.proofs.Loops.{sum_none, sum_turn, sum_low}
use Rattle.pricing.proofs.margin.margin.Goals as goal

pub add-r-requires : goal.add-r-requires
add-r-requires c =
    omega (arith, sum_low 4294967295 c.loop-charge.invariant (λ k l. omega (arith, c.type_inv.charges k)))

pub loop-charge-init : goal.loop-charge-init
loop-charge-init c = sum_none

pub loop-charge-preserved : goal.loop-charge-preserved
loop-charge-preserved c =
    let (within, _, charge, least) =
    zip_turn c.args.charges.now c.args.least.now c.loop-charge.yielded c.into_iter-charge-iterator.result _
    c.next.new.self _ (search rules) (search rules) c.loop-charge.yielded_by _ c.in-Some.is c.next.ensures.steps in
    rw (length-append c.loop-charge.yielded _)
    (sum_turn c.loop-charge.invariant within
    (c.excess.ensures ∙ ap₂ ◌-◌ (c.from.ensures ∙ charge 0) (c.from-in-loop-charge.ensures ∙ least 0))
    c.add-r.ensures)
