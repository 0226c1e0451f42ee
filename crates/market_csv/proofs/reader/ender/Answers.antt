use Rattle.std.proofs.Common.{arith}
use Rattle.market_csv.proofs.Ending.{there, fed, ender_comma, ender_line, ender_alone, ender_other, ender_over}
use Rattle.market_csv.proofs.reader.ender.Goals as goal

pub returns-in_default : goal.returns-in_default
returns-in_default c = ender_over _ _ c.requires c.in_default.is

pub overflow_add-result : goal.overflow_add-result
overflow_add-result c = let t = there _ _ c.requires c.in-Some.is in omega (arith, t.0)

pub overflow_add-end : goal.overflow_add-end
overflow_add-end c = let t = there _ _ c.requires c.in-Some.is in omega (arith, t.0)

pub overflow_add-result-then-feeds : goal.overflow_add-result-then-feeds
overflow_add-result-then-feeds c = omega (arith, fed _ _ c.if-feeds.true c.feeds.ensures)

pub returns-then-feeds : goal.returns-then-feeds
returns-then-feeds c = ender_line _ _ c.requires c.in-Some.is c.in-Cr.is (rw c.if-feeds.true at c.feeds.ensures)

pub returns-in-Comma : goal.returns-in-Comma
returns-in-Comma c = ender_comma _ _ c.requires c.in-Some.is c.in-Comma.is

pub returns-else-feeds : goal.returns-else-feeds
returns-else-feeds c = ender_alone _ _ c.requires c.in-Some.is c.in-Cr.is (rw c.if-feeds.false at c.feeds.ensures)

pub returns-in_default-kind : goal.returns-in_default-kind
returns-in_default-kind c =
    ender_other _ _ c.requires c.in-Some.is c.in_default-kind.not-Comma c.in_default-kind.not-Cr
