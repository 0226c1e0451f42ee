use Rattle.std.proofs.Common.{refl, arith}
use Rattle.market_csv.specs.Bytes.{Sorted}
use Rattle.market_csv.proofs.Sorting.{digit_between, no_digit_below, no_digit_above, stray_when}
use Rattle.market_csv.proofs.bytes.sort.Goals as goal

-- The match tests the single bytes first, and then the range's lower end.
pub returns-in-44 : goal.returns-in-44
unfolding Sorted
returns-in-44 c = c.in-44.is

pub returns-in-13 : goal.returns-in-13
unfolding Sorted
returns-in-13 c = c.in-13.is

pub returns-in-10 : goal.returns-in-10
unfolding Sorted
returns-in-10 c = c.in-10.is

pub returns-in-48-to-57 : goal.returns-in-48-to-57
unfolding Sorted
returns-in-48-to-57 c = (digit_between _ (omega arith) (omega arith), refl)

pub returns-in_default : goal.returns-in_default
unfolding Sorted
returns-in_default c =
    let not = c.in_default.in_default-own.rest in
    stray_when _ (no_digit_below _ c.in_default.if-b-lt48-own.true) not.0.0.1 not.0.1 not.1

pub returns-in_default-2 : goal.returns-in_default-2
unfolding Sorted
returns-in_default-2 c =
    let not = c.in_default.in_default-own.rest in
    stray_when _ (no_digit_above _ c.in_default.if-b-lt58-own.false) not.0.0.1 not.0.1 not.1
