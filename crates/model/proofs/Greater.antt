-- The greater of two unit prices or mills by their derived order, as the greater of their numbers.
use Rattle.std.proofs.Common.{◌≡◌, max, arith}
use Rattle.std.proofs.lemmas.Bool.Decides.{nat_tests}
use Rattle.std.specs.Ordering.{ord_max}
use Rattle.model.specs.contracts.money.UnitPriceOrd.TheImpl.{cmp-value as by_price}
use Rattle.model.specs.contracts.money.MillsOrd.TheImpl.{cmp-value as by_mills}
use Rattle.model.specs.declared.money.UnitPrice.{UnitPrice}
use Rattle.model.specs.declared.money.Mills.{Mills}

pub greater_price : (x y : UnitPrice) {r : UnitPrice} → r ≡ ord_max by_price.it x y → r.0 ≡ max x.0 y.0
greater_price x y e = rw e (grind (arith, nat_tests))

pub greater_mills : (x y : Mills) {r : Mills} → r ≡ ord_max by_mills.it x y → r.0 ≡ max x.0 y.0
greater_mills x y e = rw e (grind (arith, nat_tests))
