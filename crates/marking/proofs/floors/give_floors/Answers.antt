use mathlib.Core.Path.{ap, ◌∙◌}
use native.Mathlib.Omega.{arith}
use lib.ListN.{get_or}
use lib.Seq.{get_or-take}
use Rattle.std.proofs.lemmas.Grind.{get_or_after_one}
use Rattle.model.proofs.Loops.{is_list}
use Rattle.marking.proofs.floors.give_floors.Goals as goal

pub returns : goal.returns
returns c =
    is_list _ _ _ c.copy_from_slice.ensures.len
    (λ k l. ap (λ xs. get_or xs k 0) c.copy_from_slice.ensures.after ∙ get_or-take _ _ k 0 (omega arith)
    ∙ get_or_after_one c.args.criticals.now k 0 ∙ ap (λ i. get_or c.args.criticals.now i 0) (omega arith))
