use Rattle.model.proofs.Loops.{zeros}
use Rattle.pricing.specs.Sales.{slots}
use Rattle.pricing.proofs.sales.Sales.{sells}
use Rattle.pricing.proofs.sales.sell.Goals as goal

pub tally_sales-requires : goal.tally_sales-requires
tally_sales-requires c = record { sellable = c.requires.sellable; kwh_value = zeros slots }

pub returns : goal.returns
returns c =
    sells _ _ c.tally_sales.ensures c.requires.sold_len_bound.0 c.pay_out.ensures
