use Rattle.std.proofs.Common.{◌<◌, ◌≤◌, arith}
use Rattle.std.proofs.lemmas.Bool.Decides.{nat_tests}
use Rattle.quiet.proofs.seats.Slots.{later_after, later_before}
use Rattle.quiet.proofs.seats.later.Goals as goal

pub returns-then-lt : goal.returns-then-lt
returns-then-lt c =
    let less : c.priority_at.result.0 < c.priority_at-2.result.0 = grind (arith, nat_tests, c.lt.ensures) in
    later_after _ c.args.round.now.priced.within _ _ _ _ _ _ c.requires.1 c.requires.2
    c.args.round.now.tickets (omega (arith, c.priority_at.ensures, c.priority_at-2.ensures))

pub returns-else-lt : goal.returns-else-lt
returns-else-lt c =
    let more : c.priority_at-2.result.0 ≤ c.priority_at.result.0 = grind (arith, nat_tests, c.lt.ensures) in
    later_before _ c.args.round.now.priced.within _ _ _ _ _ _ c.requires.1 c.requires.2
    c.args.round.now.tickets (omega (arith, c.priority_at.ensures, c.priority_at-2.ensures))
