use mathlib.Core.Path.{sym, ◌∙◌}
use Rattle.checks.proofs.tickets.Tickets.{rising_no_repeat}
use Rattle.checks.proofs.tickets.any_repeats.Goals as goal

pub returns-then-rising : goal.returns-then-rising
returns-then-rising c = rising_no_repeat _ (sym c.rising.ensures ∙ c.if-rising.true)
