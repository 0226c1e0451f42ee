use mathlib.Core.Path.{ap, ◌∙◌}
use Rattle.model.specs.market.Faults.{repeats}
use Rattle.model.proofs.market.Joining.{repeats_both}
use Rattle.join.proofs.faults.ticket_in_both.Goals as goal

pub returns : goal.returns
returns c = c.any_repeats.ensures ∙ ap repeats c.join_lists.ensures ∙ repeats_both _ _ c.requires.1 c.requires.2
