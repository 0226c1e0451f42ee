-- The comparisons that are derived on unit prices and mills, as tests of their numbers.
use Rattle.std.proofs.Common.{ℕ, ◌≡◌, arith, nat_eq}
use Rattle.std.proofs.lemmas.Bool.Decides.{nat_tests}
use Rattle.std.specs.Ordering.{nat_cmp, is_lt}
use Rattle.model.specs.Counting.{◌<?◌, ◌=?◌}

pub lt_is : (a b : ℕ) → is_lt (nat_cmp a b) ≡ a <? b
unfolding ◌<?◌
lt_is a b = grind (arith, nat_tests)

pub eq_is : (a b : ℕ) → nat_eq a b ≡ a =? b
unfolding ◌=?◌
eq_is a b = grind (arith, nat_tests)
